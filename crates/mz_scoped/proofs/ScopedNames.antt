-- A name in an expression: a local name, or a function, which may be called with as many arguments as its signature has
-- parameters.
use Rattle.std.proofs.Common.{◌≡◌, ℕ, ◌<◌, List, [], ◌∷◌, length, Option, Some, None, IfSome, option_map, slice_get, refl, sym, subst}
use Rattle.std.proofs.lemmas.Option.{slice_get_within}
use Rattle.mz_tree.specs.Programs.{Program}
use Rattle.mz_scope.specs.Syntax.{Word}
use Rattle.mz_scope.specs.Names.{Names, find, Globals, FunEntry}
use Rattle.mz_scope.specs.Bodies.{has_other_count, named, name_value}
use Rattle.mz_tree.specs.Scoped.{Bound, Takes, FitsBound, unspelled}
use Rattle.mz_scoped.proofs.Grounds.{Grounds}
use Rattle.mz_scoped.proofs.Goes.{Goes, first_then, given, is_declared}
use Rattle.mz_scoped.proofs.FineCommands.{Held, Callee_held, all_map}
use Rattle.mz_scoped.proofs.ScopedShapes.{takes}
use Rattle.mz_scoped.proofs.ScopedParts.{Begun, Sofar, callee_goes, next_plain}

-- a function that is found is numbered
fun_entry : (found : Option FunEntry) (f : ℕ) → option_map (λ (e : FunEntry). e.number) found ≡ Some f → (e : FunEntry) × (found ≡ Some e) × (e.number ≡ f)
fun_entry None f is = cc
fun_entry (Some e) f is =
    let same : e.number ≡ f = cc in
    (e, refl, same)

module _ (p : Program) (g : Globals) (grounds : Grounds p g) (spelling : List (List ℕ)) where
  -- a function's name that has no spelling of its own fits what the function takes
  unspelled_fits : (o : Option (List ℕ)) (f count : ℕ) → Takes p f count → IfSome (unspelled p spelling o f) (λ h. Takes p h count)
  unspelled_fits (Some []) f count takes = takes
  unspelled_fits (Some (x ∷ rest)) f count takes = tt
  unspelled_fits None f count takes = tt

  -- no function stands for a local name, so it fits
  local_fits : (b : Bound) (count : ℕ) → b.function ≡ None → FitsBound p b count
  local_fits b count none = subst (λ o. IfSome o (λ h. Takes p h count)) (sym none) tt

  -- what a name stands for
  named_goes : (b : Begun) (scope : Names ℕ) (held : List Held) (name : Word) (o : Option ℕ) → find scope name.text ≡ o
      → Goes (Sofar p spelling b scope held) (named g o name) (λ x. Sofar p spelling b scope (Callee_held x (has_other_count g scope name.text) ∷ held))
  named_goes b scope held name (Some x) found = given x (λ m before. record {
    at = λ spells. (
      (before.at spells).0,
      λ begun.
          let k = (before.at spells).1 begun in
          let local = k.local name.text x found in
          record {
            chained = k.chained;
            numbered = k.numbered;
            grown = k.grown;
            adopted = k.adopted;
            sound = k.sound;
            local = k.local;
            all = ((local.0, local.1, all_map _ (λ c none same count fits. local_fits c count (none same)) local.2), k.all);
          },
    );
  })
  named_goes b scope held name None found =
      first_then _ _ (is_declared 0 (option_map (λ (f : FunEntry). f.number) (find g.funs name.text)) name.place)
      (λ f. callee_goes p spelling (λ m before spells. (
        (before.1.at spells).0,
        λ begun.
            let e = fun_entry (find g.funs name.text) f before.0 in
            let fun = (grounds.funs name.text e.0 e.1).2 in
            let within : f < length p.funs = subst (λ k. k < length p.funs) e.2 (slice_get_within p.funs e.0.number fun.fun fun.declared) in (
              next_plain p spelling (λ n. refl) refl (λ now n all. within) ((before.1.at spells).1 begun),
              λ count fits. unspelled_fits (slice_get spelling (length m.names)) f count (subst (λ k. Takes p k count) e.2 (takes p g grounds scope name.text e.0 count found e.1 fits)),
            ),
      )))

  -- a name is a local name, or else a function
  pub name_goes : (b : Begun) (scope : Names ℕ) (held : List Held) (name : Word) → Goes (Sofar p spelling b scope held) (name_value g scope name) (λ x. Sofar p spelling b scope (Callee_held x (has_other_count g scope name.text) ∷ held))
  name_goes b scope held name = named_goes b scope held name (find scope name.text) refl
