-- A walk that has come some way: what is left of it leads where the whole leads, and is refused where the whole is.
use Rattle.std.proofs.Common.{◌≡◌, inl, inr, ℕ, ◌+◌, List, [], ◌∷◌, ◌++◌, Option, sym, subst}
use Rattle.mz_tree.specs.Plain.{Atom}
use Rattle.mz_tree.specs.Code.{Command, to_of, place_of}
use Rattle.mz_tree.specs.declared.types.Place.{Place}
use Rattle.mz_decl.specs.Declarations.{Decls}
use Rattle.mz_view.specs.Steps.{Step}
use Rattle.mz_view.specs.Rules.{View}
use Rattle.mz_deriv.specs.Scripts.{Item, ScriptCases, See_item, Do_item}
use Rattle.mz_deriv.specs.Walks.{Walks, Walk_ends, Walk_step, Walk_does, Walk_branches}
use Rattle.mz_deriv.specs.Refused.{Refuses, Step_refused, Step_passed, Do_missing, Do_left, Do_passed, Branches_passed, next_place}
use Rattle.mz_deriv.specs.Parts.{SameNames, Passes, By_rule, Through_branches}
use Rattle.mz_deriv.specs.declared.fault.DerivFault.{DerivFault}
use Rattle.mz_deriv.specs.declared.fault.DerivFault.TheVariants.{BadStep, BadCommand}
use Rattle.mz_deriv.proofs.Membership.{in_parts, in_left, in_right}

-- with one more name on both sides the names are the same again
pub same_more : (bound names : List ℕ) (n : ℕ) → SameNames bound names → SameNames (bound ++ n ∷ []) (n ∷ names)
same_more bound names n s m = (
  (λ i. elim (in_parts m bound (n ∷ []) i) [
    | inl j ↦ inr ((s m).0 j)
    | inr j ↦ (elim j [ inl e ↦ inl e | inr none ↦ absurd none ])
  ]),
  (λ i. elim i [ inl e ↦ in_right m bound (n ∷ []) (inl e) | inr j ↦ in_left m bound (n ∷ []) ((s m).1 j) ]),
)

-- from R over these commands and items, up to that brace, with these names bound, the walk has come to S, where those are
-- left and these names are bound; `made` view steps were made since the last command
pub record Led (D : Decls) (brace : Place) (from : List ℕ) (R : List (Atom ℕ)) (commands : List Command) (items : List Item) (now : List ℕ) (S : List (Atom ℕ)) (left : List Command) (more : List Item) (made : ℕ) : Type 0 where
  pub bound : List ℕ → List ℕ
  pub same : (names : List ℕ) → SameNames from names → SameNames now (bound names)
  pub walks : (names : List ℕ) → SameNames from names → (T : List (Atom ℕ)) → Walks D (bound names) S left more T → Walks D names R commands items T
  pub refused : (names : List ℕ) → SameNames from names → (fault : DerivFault) → Refuses D (bound names) S left more brace made fault → Refuses D names R commands items brace 0 fault

-- at the start all is left
pub led_start : (D : Decls) (brace : Place) (from : List ℕ) (R : List (Atom ℕ)) (commands : List Command) (items : List Item) → Led D brace from R commands items from R commands items 0
led_start D brace from R commands items = record { bound = λ names. names; same = λ names h. h; walks = λ names h T w. w; refused = λ names h fault r. r }

module _ (D : Decls) (brace : Place) (from : List ℕ) (R : List (Atom ℕ)) (commands : List Command) (items : List Item) where
  -- a view step was made
  pub led_step : (now : List ℕ) (S U : List (Atom ℕ)) (s : Step) (left : List Command) (more : List Item) (made : ℕ) → Led D brace from R commands items now S left (See_item s ∷ more) made → View D S s U → Led D brace from R commands items now U left more (made + 1)
  led_step now S U s left more made l v = record {
    bound = l.bound;
    same = l.same;
    walks = λ names h T w. l.walks names h T (Walk_step v w);
    refused = λ names h fault r. l.refused names h fault (Step_passed v r);
  }

  -- what passes a command leads on behind it
  walk_on : (names : List ℕ) (S U : List (Atom ℕ)) (c : Command) (uses : Option (Atom ℕ)) (cases : ScriptCases) (join : List (Atom ℕ)) (left : List Command) (more : List Item) (T : List (Atom ℕ)) → Passes D names S c uses cases join U →
      Walks D (to_of c ∷ names) U left more T → Walks D names S (c ∷ left) (Do_item uses cases join ∷ more) T
  walk_on names S U c uses cases join left more T (By_rule m) w =
      subst (λ j. Walks D names S (c ∷ left) (Do_item uses cases j ∷ more) T) (sym m.no_join) (subst (λ cs. Walks D names S (c ∷ left) (Do_item uses cs [] ∷ more) T) (sym m.no_cases) (Walk_does m.does w))
  walk_on names S U c uses cases join left more T (Through_branches branches b o k e) w = Walk_branches b o k (subst (λ z. Walks D (to_of c ∷ names) z left more T) e w)

  refuse_on : (names : List ℕ) (S U : List (Atom ℕ)) (c : Command) (uses : Option (Atom ℕ)) (cases : ScriptCases) (join : List (Atom ℕ)) (left : List Command) (more : List Item) (made : ℕ) (fault : DerivFault) → Passes D names S c uses cases join U →
      Refuses D (to_of c ∷ names) U left more brace 0 fault → Refuses D names S (c ∷ left) (Do_item uses cases join ∷ more) brace made fault
  refuse_on names S U c uses cases join left more made fault (By_rule m) r =
      subst (λ j. Refuses D names S (c ∷ left) (Do_item uses cases j ∷ more) brace made fault) (sym m.no_join) (subst (λ cs. Refuses D names S (c ∷ left) (Do_item uses cs [] ∷ more) brace made fault) (sym m.no_cases) (Do_passed m.does r))
  refuse_on names S U c uses cases join left more made fault (Through_branches branches b o k e) r = Branches_passed b o k (subst (λ z. Refuses D (to_of c ∷ names) z left more brace 0 fault) e r)

  -- a command was made
  pub led_do : (now : List ℕ) (S U : List (Atom ℕ)) (c : Command) (uses : Option (Atom ℕ)) (cases : ScriptCases) (join : List (Atom ℕ)) (left : List Command) (more : List Item) (made : ℕ) → Led D brace from R commands items now S (c ∷ left) (Do_item uses cases join ∷ more) made →
      ((names : List ℕ) → SameNames now names → Passes D names S c uses cases join U) → Led D brace from R commands items (now ++ to_of c ∷ []) U left more 0
  led_do now S U c uses cases join left more made l m = record {
    bound = λ names. to_of c ∷ l.bound names;
    same = λ names h. same_more now (l.bound names) (to_of c) (l.same names h);
    walks = λ names h T w. l.walks names h T (walk_on (l.bound names) S U c uses cases join left more T (m (l.bound names) (l.same names h)) w);
    refused = λ names h fault r. l.refused names h fault (refuse_on (l.bound names) S U c uses cases join left more made fault (m (l.bound names) (l.same names h)) r);
  }

  -- a view step has no instance
  pub no_step : (now : List ℕ) (S : List (Atom ℕ)) (s : Step) (left : List Command) (more : List Item) (made : ℕ) (fault : DerivFault) → Led D brace from R commands items now S left (See_item s ∷ more) made → ((U : List (Atom ℕ)) → View D S s U → ⊥) →
      fault ≡ BadStep (next_place left brace) (made + 1) → (names : List ℕ) → SameNames from names → Refuses D names R commands items brace 0 fault
  no_step now S s left more made fault l n e names h = l.refused names h fault (subst (λ f. Refuses D (l.bound names) S left (See_item s ∷ more) brace made f) (sym e) (Step_refused n))

  -- the item of a command is refused
  pub no_do : (now : List ℕ) (S : List (Atom ℕ)) (c : Command) (uses : Option (Atom ℕ)) (cases : ScriptCases) (join : List (Atom ℕ)) (left : List Command) (more : List Item) (made : ℕ) (fault : DerivFault) → Led D brace from R commands items now S (c ∷ left) (Do_item uses cases join ∷ more) made →
      ((names : List ℕ) → SameNames now names → (after : List Command) (later : List Item) (z : Place) (k : ℕ) → Refuses D names S (c ∷ after) (Do_item uses cases join ∷ later) z k fault) → (names : List ℕ) → SameNames from names → Refuses D names R commands items brace 0 fault
  no_do now S c uses cases join left more made fault l n names h = l.refused names h fault (n (l.bound names) (l.same names h) left more brace made)

  -- no command is left for an item
  pub too_many : (now : List ℕ) (S : List (Atom ℕ)) (uses : Option (Atom ℕ)) (cases : ScriptCases) (join : List (Atom ℕ)) (more : List Item) (made : ℕ) → Led D brace from R commands items now S [] (Do_item uses cases join ∷ more) made →
      (names : List ℕ) → SameNames from names → Refuses D names R commands items brace 0 (BadCommand brace)
  too_many now S uses cases join more made l names h = l.refused names h (BadCommand brace) Do_left

  -- a command is left without an item
  pub too_few : (now : List ℕ) (S : List (Atom ℕ)) (c : Command) (left : List Command) (made : ℕ) → Led D brace from R commands items now S (c ∷ left) [] made → (names : List ℕ) → SameNames from names → Refuses D names R commands items brace 0 (BadCommand (place_of c))
  too_few now S c left made l names h = l.refused names h (BadCommand (place_of c)) Do_missing

  -- nothing is left
  pub at_end : (now : List ℕ) (S : List (Atom ℕ)) (made : ℕ) → Led D brace from R commands items now S [] [] made → (names : List ℕ) → SameNames from names → Walks D names R commands items S
  at_end now S made l names h = l.walks names h S Walk_ends
