-- Changes of permissions and of their marks are changes of the entries.
use Rattle.std.proofs.Common.{◌≡◌, ℕ, zero, suc, ◌<◌, ◌≤◌, arith, List, [], ◌∷◌, ◌++◌, length, Some, None, slice_get, slice_set, refl, sym, ap}
use Rattle.std.specs.List.{remove}
use Rattle.mz_tree.specs.Plain.{Atom}
use Rattle.mz_goal.specs.Goals.{Entry, Unused, atoms, unused}
use Rattle.mz_goal.specs.Marked.{plain_mark, mark_of, entries}
use Rattle.mz_goal.specs.declared.marks.Mark.{Mark as CodeMark}
use Rattle.mz_goal.specs.declared.marks.Mark.TheVariants.{Unused as UnusedCode}

some_is : {A : Type 0} (a b : A) → Some a ≡ Some b → a ≡ b
some_is a b e = cc

-- the permissions of the entries
pub atoms_entries : (R : List (Atom ℕ)) (marks : List CodeMark) → atoms (entries R marks) ≡ R
atoms_entries [] marks = refl
atoms_entries (a ∷ R) [] = ap (λ l. a ∷ l) (atoms_entries R [])
atoms_entries (a ∷ R) (m ∷ marks) = ap (λ l. a ∷ l) (atoms_entries R marks)

pub long_entries : (R : List (Atom ℕ)) (marks : List CodeMark) → length (entries R marks) ≡ length R
long_entries [] marks = refl
long_entries (a ∷ R) [] = ap suc (long_entries R [])
long_entries (a ∷ R) (m ∷ marks) = ap suc (long_entries R marks)

-- what stands at a place
pub entry_at : (R : List (Atom ℕ)) (marks : List CodeMark) (n : ℕ) (a : Atom ℕ) → slice_get R n ≡ Some a → slice_get (entries R marks) n ≡ Some (record { atom = a; mark = mark_of marks n })
entry_at [] marks n a e = absurd (cc)
entry_at (b ∷ R) [] zero a e = ap (λ c. Some (unused c)) (some_is b a e)
entry_at (b ∷ R) [] (suc n) a e = entry_at R [] n a e
entry_at (b ∷ R) (m ∷ marks) zero a e = ap (λ c. Some (record { atom = c; mark = plain_mark m })) (some_is b a e)
entry_at (b ∷ R) (m ∷ marks) (suc n) a e = entry_at R marks n a e

-- an entry has the mark of its place
pub at_entry : (R : List (Atom ℕ)) (marks : List CodeMark) (n : ℕ) (e : Entry) → slice_get (entries R marks) n ≡ Some e → (slice_get R n ≡ Some e.atom) × (e.mark ≡ mark_of marks n)
at_entry [] marks n e g = absurd (cc)
at_entry (b ∷ R) [] zero e g = let s : unused b ≡ e = some_is _ _ g in (ap (λ (x : Entry). Some x.atom) s, ap (λ (x : Entry). x.mark) (sym s))
at_entry (b ∷ R) [] (suc n) e g = at_entry R [] n e g
at_entry (b ∷ R) (m ∷ marks) zero e g = let s : record { atom = b; mark = plain_mark m } ≡ e = some_is _ _ g in (ap (λ (x : Entry). Some x.atom) s, ap (λ (x : Entry). x.mark) (sym s))
at_entry (b ∷ R) (m ∷ marks) (suc n) e g = at_entry R marks n e g

-- one mark more at the end changes nothing where it is that of the places behind
pub more_marks : (R : List (Atom ℕ)) (marks : List CodeMark) → entries R (marks ++ UnusedCode ∷ []) ≡ entries R marks
more_marks [] marks = refl
more_marks (a ∷ R) [] = refl
more_marks (a ∷ R) (m ∷ marks) = ap (λ l. record { atom = a; mark = plain_mark m } ∷ l) (more_marks R marks)

pub set_entry : (R : List (Atom ℕ)) (marks : List CodeMark) (n : ℕ) (a : Atom ℕ) (m : CodeMark) → n < length marks → slice_get R n ≡ Some a → entries R (slice_set marks n m) ≡ slice_set (entries R marks) n (record { atom = a; mark = plain_mark m })
set_entry R [] n a m h e = absurd (omega arith)
set_entry [] (k ∷ marks) n a m h e = absurd (cc)
set_entry (b ∷ R) (k ∷ marks) zero a m h e = ap (λ c. record { atom = c; mark = plain_mark m } ∷ entries R marks) (some_is b a e)
set_entry (b ∷ R) (k ∷ marks) (suc n) a m h e = ap (λ l. record { atom = b; mark = plain_mark k } ∷ l) (set_entry R marks n a m (omega (arith, h)) e)

-- a permission more at the end
pub add_short : (R : List (Atom ℕ)) (marks : List CodeMark) (a : Atom ℕ) → length marks ≤ length R → entries (R ++ a ∷ []) marks ≡ entries R marks ++ unused a ∷ []
add_short [] [] a h = refl
add_short [] (m ∷ marks) a h = absurd (omega arith)
add_short (b ∷ R) [] a h = ap (λ l. unused b ∷ l) (add_short R [] a (omega arith))
add_short (b ∷ R) (m ∷ marks) a h = ap (λ l. record { atom = b; mark = plain_mark m } ∷ l) (add_short R marks a (omega (arith, h)))

pub add_long : (R : List (Atom ℕ)) (marks : List CodeMark) (a : Atom ℕ) → length R < length marks → entries (R ++ a ∷ []) (slice_set marks (length R) UnusedCode) ≡ entries R marks ++ unused a ∷ []
add_long R [] a h = absurd (omega arith)
add_long [] (m ∷ marks) a h = refl
add_long (b ∷ R) (m ∷ marks) a h = ap (λ l. record { atom = b; mark = plain_mark m } ∷ l) (add_long R marks a (omega (arith, h)))

-- a permission taken out
pub take_marked : (R : List (Atom ℕ)) (marks : List CodeMark) (n : ℕ) → n < length marks → n < length R → entries (remove R n) (remove marks n) ≡ remove (entries R marks) n
take_marked R [] n h l = absurd (omega arith)
take_marked [] (m ∷ marks) n h l = absurd (omega arith)
take_marked (b ∷ R) (m ∷ marks) zero h l = refl
take_marked (b ∷ R) (m ∷ marks) (suc n) h l = ap (λ l. record { atom = b; mark = plain_mark m } ∷ l) (take_marked R marks n (omega (arith, h)) (omega (arith, l)))

pub take_unmarked : (R : List (Atom ℕ)) (marks : List CodeMark) (n : ℕ) → length marks ≤ n → n < length R → entries (remove R n) marks ≡ remove (entries R marks) n
take_unmarked [] marks n h l = absurd (omega arith)
take_unmarked (b ∷ R) [] zero h l = refl
take_unmarked (b ∷ R) [] (suc n) h l = ap (λ l. unused b ∷ l) (take_unmarked R [] n (omega arith) (omega (arith, l)))
take_unmarked (b ∷ R) (m ∷ marks) zero h l = absurd (omega arith)
take_unmarked (b ∷ R) (m ∷ marks) (suc n) h l = ap (λ l. record { atom = b; mark = plain_mark m } ∷ l) (take_unmarked R marks n (omega (arith, h)) (omega (arith, l)))

-- the mark of a place in the words of the code
pub marked_at : (marks : List CodeMark) (n : ℕ) (m : CodeMark) → Some m ≡ slice_get marks n → plain_mark m ≡ mark_of marks n
marked_at [] n m e = absurd (cc)
marked_at (k ∷ marks) zero m e = ap plain_mark (some_is m k e)
marked_at (k ∷ marks) (suc n) m e = marked_at marks n m e

pub unmarked_at : (marks : List CodeMark) (n : ℕ) → None ≡ slice_get marks n → Unused ≡ mark_of marks n
unmarked_at [] n e = refl
unmarked_at (k ∷ marks) zero e = absurd (cc)
unmarked_at (k ∷ marks) (suc n) e = unmarked_at marks n e
