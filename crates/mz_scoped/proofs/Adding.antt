-- What parts add, one after the other, to what is made.
use Rattle.std.proofs.Common.{◌≡◌, ℕ, List, [], ◌∷◌, ◌++◌, refl, sym, ap, subst, ◌∙◌, append_assoc}
use Rattle.std.proofs.lemmas.List.{append-nil}
use Rattle.mz_tree.specs.Programs.{Clause}
use Rattle.mz_scope.specs.Making.{Made, Part, add_clause}
use Rattle.mz_scoped.proofs.Goes.{Goes, added, value_in, made_in}
use Rattle.mz_scoped.proofs.Grounds.{Adds, pairs_of}

-- the pairs of clauses behind others
pub pairs_behind : (before more : List Clause) → pairs_of (before ++ more) ≡ pairs_of before ++ pairs_of more
pairs_behind [] more = refl
pairs_behind (c ∷ before) more = ap (λ rest. (c.con, c.adopts) ∷ rest) (pairs_behind before more)

-- nothing more is made
pub nothing_added : (m : Made) → Adds [] m m
nothing_added m = record { commands = refl; names = refl; clauses = sym (append-nil (pairs_of m.clauses)) }

-- nothing was added to what is the same
pub same_added : (old m : Made) → m ≡ old → Adds [] old m
same_added old m same = subst (λ made. Adds [] made m) same (nothing_added m)

-- first these are added, and then those
pub added_both : {some more : List (ℕ × ℕ)} {old mid new : Made} → Adds some old mid → Adds more mid new → Adds (some ++ more) old new
added_both {some = some} {more = more} {old = old} first next = record {
  commands = next.commands ∙ first.commands;
  names = next.names ∙ first.names;
  clauses = next.clauses ∙ ap (λ pairs. pairs ++ more) first.clauses ∙ append_assoc (pairs_of old.clauses) some more;
}

-- the same pairs, said otherwise
pub added_as : {some more : List (ℕ × ℕ)} {old new : Made} → some ≡ more → Adds some old new → Adds more old new
added_as {old = old} {new = new} same adds = subst (λ pairs. Adds pairs old new) same adds

-- one clause
pub clause_goes : (old : Made) (some : List (ℕ × ℕ)) (c : Clause) → Goes (Adds some old) (add_clause c) (λ _ m. Adds (some ++ (c.con, c.adopts) ∷ []) old m)
clause_goes old some c = added (add_clause c) (λ m. refl) (λ m adds. added_both adds (record { commands = refl; names = refl; clauses = pairs_behind m.clauses (c ∷ []) }))

-- ---- parts that add

-- what a part comes to from each thing that is made, it comes to from what holds of that
pub from_each : {A : Type 0} {P : Made → Type 0} {Q : Made → A → Made → Type 0} (part : Part A) → ((mid : Made) → Goes (λ m. m ≡ mid) part (Q mid)) → Goes P part (λ a m. (mid : Made) × P mid × Q mid a m)
from_each part each = record {
  clean = λ m none. (each m).clean m none;
  leads = λ m none p. (m, p, (each m).leads m none refl);
}

-- a part that adds more, behind what was added before
pub added_behind : {A : Type 0} {X : A → Type 0} {more : A → List (ℕ × ℕ)} (part : Part A) (some : List (ℕ × ℕ)) (old : Made)
    → ((mid : Made) → Goes (λ m. m ≡ mid) part (λ a m. X a × Adds (more a) mid m)) → Goes (Adds some old) part (λ a m. X a × Adds (some ++ more a) old m)
added_behind {X = X} {more = more} part some old each = record {
  clean = λ m none. (each m).clean m none;
  leads = λ m none before.
      let after : X (value_in (part m)) × Adds (more (value_in (part m))) m (made_in (part m)) = (each m).leads m none refl in
      (after.0, added_both before after.1);
}
