-- What is known in the middle of a body: of its commands, of what is in scope and of the names that are held for what follows.
use Rattle.std.proofs.Common.{◌≡◌, ◌≢◌, ℕ, zero, suc, ◌+◌, ◌<◌, ◌≤◌, ◌==◌, Bool, true, false, ◌||◌, List, [], ◌∷◌, ◌++◌, length, Some, None, slice_get, refl, sym, ap, ◌∙◌, subst, arith, append_assoc}
use Rattle.std.specs.List.{list_any}
use Rattle.std.proofs.lemmas.Bool.Decides.{Decides-eqb}
use Rattle.mz_tree.specs.declared.types.Place.{Place}
use Rattle.mz_tree.specs.Code.{Op, Int_op, Fun_op, Command, The_command}
use Rattle.mz_tree.specs.Programs.{Program}
use Rattle.mz_scope.specs.Names.{Names, find}
use Rattle.mz_scope.specs.Making.{Made}
use Rattle.mz_tree.specs.Scoped.{Scope, Bound, IsBound, Each, IsOp, FitsBound, unspelled, function_in, bound_by, after_op, adopting_op}
use Rattle.mz_scoped.proofs.Proper.{AllOf}
use Rattle.mz_scoped.proofs.Grounds.{pairs_of}
use Rattle.mz_scoped.proofs.CommandChains.{all_after, after_more, all_adopting, adopting_more, scope_after, scope_more, AreChained, chained_more}

-- ---- members

-- what holds of each member, and what follows from it
pub all_map : {A : Type 0} {P Q : A → Type 0} (list : List A) → ((a : A) → P a → Q a) → AllOf P list → AllOf Q list
all_map [] turn all = tt
all_map (a ∷ rest) turn all = (turn a all.0, all_map rest turn all.1)

-- it holds at each place
pub each_of : {A : Type 0} (P : A → Type 0) (list : List A) → AllOf P list → Each (λ _ a. P a) list
each_of P [] all k a at = cc
each_of P (x ∷ rest) all zero a at =
    let same : x ≡ a = cc in
    subst P same all.0
each_of P (x ∷ rest) all (suc k) a at = each_of P rest all.1 k a at

-- one of two tests holds
or_right : (b c : Bool) → c ≡ true → (b || c) ≡ true
or_right true c is = refl
or_right false c is = is

or_left : (b c : Bool) → b ≡ true → (b || c) ≡ true
or_left true c is = refl
or_left false c is = cc

-- what is bound stays so
pub bound_more : (b : Bound) (here : Scope) (x : ℕ) → IsBound here x → IsBound (b ∷ here) x
bound_more b here x is = or_right (b.name == x) (list_any (λ (c : Bound). c.name == x) here) is

-- and what was bound last is
pub bound_here : (b : Bound) (here : Scope) → IsBound (b ∷ here) b.name
bound_here b here = or_left (b.name == b.name) (list_any (λ (c : Bound). c.name == b.name) here) ((Decides-eqb b.name b.name).1 refl)

-- ---- what is held

-- a name, names and fields with names, to be used soon; a callee, with the numbers of arguments that don't fit it
pub data Held : Type 0 where
  Value_held : ℕ → Held
  Values_held : List ℕ → Held
  Fields_held : Names ℕ → Held
  Callee_held : ℕ → (ℕ → Bool) → Held

module _ (p : Program) (spelling : List (List ℕ)) where
  -- a callee fits each number of arguments that isn't another
  abbrev pub FitsOthers : (ℕ → Bool) → Bound → Type 0
  FitsOthers other b = (count : ℕ) → other count ≡ false → FitsBound p b count

  -- what is held is bound; no function stands for a callee but one that it fits
  abbrev pub IsHeld : Scope → ℕ → Held → Type 0
  IsHeld here n (Value_held x) = IsBound here x
  IsHeld here n (Values_held xs) = AllOf (IsBound here) xs
  IsHeld here n (Fields_held fields) = AllOf (λ (one : List ℕ × ℕ). IsBound here one.1) fields
  IsHeld here n (Callee_held x other) = IsBound here x × (x < n) × AllOf (λ (b : Bound). b.name ≡ x → FitsOthers other b) here

  -- it stays so with one more name, which is a new one
  pub held_more : (b : Bound) (here : Scope) (n more : ℕ) (h : Held) → n ≤ b.name → n ≤ more → IsHeld here n h → IsHeld (b ∷ here) more h
  held_more b here n more (Value_held x) new some is = bound_more b here x is
  held_more b here n more (Values_held xs) new some is = all_map xs (λ x. bound_more b here x) is
  held_more b here n more (Fields_held fields) new some is = all_map fields (λ one. bound_more b here one.1) is
  held_more b here n more (Callee_held x other) new some (bound, below, fits) =
      let less : x < b.name = omega arith in
      (bound_more b here x bound, omega arith, (λ same. absurd (omega (arith, same, less)), fits))

  -- and where names were made that are not in scope
  pub held_later : (here : Scope) (n more : ℕ) (h : Held) → n ≤ more → IsHeld here n h → IsHeld here more h
  held_later here n more (Value_held x) some is = is
  held_later here n more (Values_held xs) some is = is
  held_later here n more (Fields_held fields) some is = is
  held_later here n more (Callee_held x other) some (bound, below, fits) = (bound, omega arith, fits)

  -- ---- what is in scope

  -- a core name's number is below the next; where it has a spelling, no function stands for it
  abbrev pub IsSound : ℕ → Bound → Type 0
  IsSound n b = (b.name < n) × ((text : List ℕ) → slice_get spelling b.name ≡ Some text → text ≢ [] → b.function ≡ None)

  -- a name with a spelling is no function's own
  unspelled_none : (f : ℕ) (text : List ℕ) → text ≢ [] → unspelled p spelling (Some text) f ≡ None
  unspelled_none f [] some = absurd (some refl)
  unspelled_none f (x ∷ rest) some = refl

  -- so is one that a command binds
  new_function : (to : ℕ) (op : Op) (text : List ℕ) → slice_get spelling to ≡ Some text → text ≢ [] → function_in p spelling to op ≡ None
  new_function to (Fun_op f) text is some = ap (λ o. unspelled p spelling o f) is ∙ unspelled_none f text some
  new_function to (Int_op n) text is some = refl
  new_function to _ text is some = refl

  -- a local name: it is bound, and no function stands for it
  abbrev pub IsLocal : Scope → ℕ → ℕ → Type 0
  IsLocal here n x = IsBound here x × (x < n) × AllOf (λ (b : Bound). b.name ≡ x → b.function ≡ None) here

  -- the names of the source that are in scope
  abbrev pub AreLocal : Scope → ℕ → Names ℕ → Type 0
  AreLocal here n scope = (name : List ℕ) (x : ℕ) → find scope name ≡ Some x → IsLocal here n x

  -- it stays local with one more name, which is a new one
  local_more : (b : Bound) (here : Scope) (n more x : ℕ) → n ≤ b.name → n ≤ more → IsLocal here n x → IsLocal (b ∷ here) more x
  local_more b here n more x new some (bound, below, none) =
      let less : x < b.name = omega arith in
      (bound_more b here x bound, omega arith, (λ same. absurd (omega (arith, same, less)), none))

  -- ---- in the middle of a body that began with this scope, where this was made

  pub record Known (here : Scope) (old : Made) (scope : Names ℕ) (held : List Held) (commands : List Command) (count : ℕ) (pairs : List (ℕ × ℕ)) : Type 0 where
    pub chained : AreChained p spelling here (length old.names) commands
    pub numbered : all_after (length old.names) commands ≡ count
    pub grown : length old.names ≤ count
    pub adopted : pairs ≡ pairs_of old.clauses ++ all_adopting commands
    pub sound : AllOf (IsSound count) (scope_after p spelling here commands)
    pub local : AreLocal (scope_after p spelling here commands) count scope
    pub all : AllOf (IsHeld (scope_after p spelling here commands) count) held

  -- other names may be held
  pub held_as : {here : Scope} {old : Made} {scope : Names ℕ} {held others : List Held} {commands : List Command} {count : ℕ} {pairs : List (ℕ × ℕ)} → ((now : Scope) (n : ℕ) → AllOf (IsHeld now n) held → AllOf (IsHeld now n) others)
      → Known here old scope held commands count pairs → Known here old scope others commands count pairs
  held_as turn k = record {
    chained = k.chained;
    numbered = k.numbered;
    grown = k.grown;
    adopted = k.adopted;
    sound = k.sound;
    local = k.local;
    all = turn _ _ k.all;
  }

  -- one more command, which binds the next name after those of its bodies; `other` tells the numbers of arguments that don't
  -- fit what it binds
  pub known_more : (here : Scope) (old : Made) (scope : Names ℕ) (held : List Held) (commands : List Command) (count : ℕ) (pairs : List (ℕ × ℕ)) (to next : ℕ) (op : Op) (place : Place) (other : ℕ → Bool)
      → Known here old scope held commands count pairs → to ≡ after_op count op → count ≤ to → next ≡ to + 1 → IsOp p spelling (scope_after p spelling here commands) count to op → FitsOthers other (bound_by p spelling to op)
      → Known here old scope (Callee_held to other ∷ held) (commands ++ The_command to op place ∷ []) next (pairs ++ adopting_op op)
  known_more here old scope held commands count pairs to next op place other k to_is few next_is is fits = record {
    chained = chained_more p spelling here (length old.names) commands c k.chained (subst (λ n. (to ≡ after_op n op) × IsOp p spelling now n to op) (sym k.numbered) (to_is, is));
    grown = omega (arith, k.grown, few, next_is);
    numbered = after_more (length old.names) commands c ∙ ap (λ n. after_op n op + 1) k.numbered ∙ ap (λ n. n + 1) (sym to_is) ∙ sym next_is;
    adopted = ap (λ l. l ++ adopting_op op) k.adopted ∙ append_assoc (pairs_of old.clauses) (all_adopting commands) (adopting_op op) ∙ ap (λ l. pairs_of old.clauses ++ l) (sym (adopting_more commands c));
    sound = subst (AllOf (IsSound next)) (sym new) (sound_new, all_map now sound_later k.sound);
    local = subst (λ l. AreLocal l next scope) (sym new) (λ name x found. local_more b now count next x few more (k.local name x found));
    all = subst (λ l. AllOf (IsHeld l next) (Callee_held to other ∷ held)) (sym new) (callee, all_map held (λ h. held_more b now count next h few more) k.all);
  }
    where
      c : Command
      c = The_command to op place

      b : Bound
      b = bound_by p spelling to op

      now : Scope
      now = scope_after p spelling here commands

      more : count ≤ next
      more = omega (arith, few, next_is)

      new : scope_after p spelling here (commands ++ c ∷ []) ≡ b ∷ now
      new = scope_more p spelling here commands c

      sound_new : IsSound next b
      sound_new = (omega (arith, next_is), new_function to op)

      sound_later : (a : Bound) → IsSound count a → IsSound next a
      sound_later a sound = (omega (arith, sound.0, more), sound.1)

      apart : (a : Bound) → IsSound count a → a.name ≡ to → FitsOthers other a
      apart a sound same = absurd (omega (arith, sound.0, same, few))

      callee : IsHeld (b ∷ now) next (Callee_held to other)
      callee = (bound_here b now, omega (arith, next_is), (λ same. fits, all_map now apart k.sound))
