-- A match: by the constructor that is known, or by each case.
use Rattle.std.proofs.Common.{◌≡◌, ◌⊎◌, inl, inr, ℕ, ◌+◌, ◌<◌, ◌≤◌, List, [], ◌∷◌, ◌++◌, map, drop, length, get_or, Result, Err, Some, Vec, Global, slice_get, refl, sym, ap, ◌∙◌, subst}
use Rattle.std.proofs.lemmas.List.{map-append, append_assoc, append-nil}
use Rattle.mz_tree.specs.Plain.{Atom, Ty, Block_type, Named_type, Has_atom}
use Rattle.mz_tree.specs.Code.{Body, Case, Command, Match_op, The_command, The_case, op_of, commands_in, case_list, cases_of, con_of, body_of}
use Rattle.mz_tree.specs.View.{plain_atom, plain_case, plain_cases}
use Rattle.mz_tree.specs.declared.types.Place.{Place}
use Rattle.mz_tree.specs.declared.code.Case.{Case as CodeCase}
use Rattle.mz_decl.specs.Declarations.{Decls, clause_of}
use Rattle.mz_modes.specs.Affine.{Affine}
use Rattle.mz_index.specs.Finding.{IsFirst, NoneFits, InClass}
use Rattle.mz_view.specs.Rules.{subject_of}
use Rattle.mz_decl.proofs.Adopters.{some_is}
use Rattle.mz_deriv.proofs.Lists.{next_of, none_of}
use Rattle.mz_elab.specs.Sought.{IsFirstAt}
use Rattle.mz_elab.specs.Opening.{Opening, BlockIn, OpensIn, begin_with, open_case, open_con, in_place, at_end}
use Rattle.mz_elab.specs.Joins.{End}
use Rattle.mz_elab.specs.Joining.{plain_end, plain_ends}
use Rattle.mz_elab.specs.Guided.{GuidedAll, Guided_none}
use Rattle.mz_elab.specs.Lacking.{Lacks, LacksIn}
use Rattle.mz_elab.specs.Walking.{GoesOver, WalksTo, BodyOr, BranchOr, BranchesOr, JoinsOr, PutsIn, OpensCon}
use Rattle.mz_elab.specs.declared.ends.End.{End as CodeEnd}
use Rattle.mz_elab.specs.declared.fault.ElabFault.{ElabFault}
use Rattle.mz_elab.specs.declared.fault.ElabFault.TheVariants.{NoPermission, Memory}
use Rattle.mz_elab.proofs.Forked.{lacks_here, lacks_inside, goes_joined, first_walked, first_lacks, next_lacks, one_walked, one_lacks, takes_none, takes_none_lacks}

-- cases as a chain and back
pub cases_listed : (cases : List Case) → case_list (cases_of cases) ≡ cases
cases_listed [] = refl
cases_listed (c ∷ cases) = ap (λ l. c ∷ l) (cases_listed cases)

-- the first of a sort, with the name and the type that it has
module _ (D : Decls) (names : List ℕ) (R : List (Atom ℕ)) (n to y d : ℕ) (cases : List Case) (giving : List (Atom ℕ)) (place : Place) where
  abbrev pub command : Command
  command = The_command to (Match_op y d (cases_of cases) giving) place

  -- nothing of the data type is held
  pub match_lacks : NoneFits (InClass R y (BlockIn D d)) R → NoneFits (InClass R y (λ t. t ≡ Named_type d)) R → (rest : List Command) → Lacks D names R n (command ∷ rest) place (Has_atom y (Named_type d))
  match_lacks b a rest = lacks_here D names R n command (Has_atom y (Named_type d)) (record { no_block = b; no_data = a; is = refl }) rest

  -- the constructor is known
  module _ (at : ℕ) (f : IsFirstAt R y (BlockIn D d) at) (j : ℕ) (k : Case) (its : IsFirst (λ (c : Case). con_of c ≡ f.first.fits.fits.con) cases j k) where
    abbrev pub its_branch : List Opening
    its_branch = begin_with R (body_of k) ∷ []

    opens_known : OpensIn D R (op_of command) its_branch
    opens_known = inl (record { place = at; one = f.one; first = f.first; at = j; case = k; its = subst (λ l. IsFirst (λ (c : Case). con_of c ≡ f.first.fits.fits.con) l j k) (sym (cases_listed cases)) its; same = refl })

    pub known_lacks : (where_ : Place) (a : Atom ℕ) → Lacks D names R n (commands_in (body_of k)) where_ a → (rest : List Command) → Lacks D names R n (command ∷ rest) where_ a
    known_lacks where_ a l = lacks_inside D names R n command its_branch opens_known where_ a (one_lacks D names n (begin_with R (body_of k)) where_ a (takes_none_lacks D names R n (commands_in (body_of k)) where_ a l))

    pub known_fault : (m k' : ℕ) (S : List (Atom ℕ)) (fault : ElabFault) → BodyOr D names R n (body_of k) m (Err fault) → GoesOver {A = Unit {0}} D names R n command S k' (Err fault)
    known_fault m k' S (NoPermission where_ a) l = known_lacks where_ (plain_atom a) l
    known_fault m k' S Memory l = record {}

    pub known_joined : {A : Type 0} (m : ℕ) (e : CodeEnd) (J : List (Atom ℕ)) (result : Result A ElabFault) → WalksTo D names R n (body_of k) m e → JoinsOr D names R to giving (plain_end e ∷ []) J result → GoesOver D names R n command J m result
    known_joined m e J result w j = goes_joined D names R n command its_branch opens_known (plain_end e ∷ []) m J result (one_walked D names n (begin_with R (body_of k)) m e (takes_none D names R n (body_of k) m e w)) j

  -- the data type alone is
  module _ (alone : NoneFits (InClass R y (BlockIn D d)) R) (at : ℕ) (f : IsFirstAt R y (λ t. t ≡ Named_type d) at) (put : List (Atom ℕ) → List (Atom ℕ)) (puts : PutsIn D R at d put) where
    abbrev pub each_branch : List Opening
    each_branch = map (open_case D f.first.fits.name d put R) cases

    opens_each : OpensIn D R (op_of command) each_branch
    opens_each = inr (record { alone = alone; place = at; one = f.one; first = f.first; same = same puts })
      where
        listed : (g : Case → Opening) → map g cases ≡ map g (case_list (cases_of cases))
        listed g = ap (map g) (sym (cases_listed cases))

        same : PutsIn D R at d put → (Affine D d × (each_branch ≡ map (open_case D f.first.fits.name d (in_place R at) R) (case_list (cases_of cases)))) ⊎ ((Affine D d → ⊥) × (each_branch ≡ map (open_case D f.first.fits.name d (at_end R) R) (case_list (cases_of cases))))
        same (inl p) = inl (p.0, ap (λ g. map (open_case D f.first.fits.name d g R) cases) p.1 ∙ listed (open_case D f.first.fits.name d (in_place R at) R))
        same (inr p) = inr (p.0, ap (λ g. map (open_case D f.first.fits.name d g R) cases) p.1 ∙ listed (open_case D f.first.fits.name d (at_end R) R))

    pub each_lacks : (where_ : Place) (a : Atom ℕ) → LacksIn D names n each_branch where_ a → (rest : List Command) → Lacks D names R n (command ∷ rest) where_ a
    each_lacks where_ a l = lacks_inside D names R n command each_branch opens_each where_ a l

    pub each_fault : (m k' : ℕ) (S : List (Atom ℕ)) (fault : ElabFault) → BranchesOr D names n each_branch m (Err fault) → GoesOver {A = Unit {0}} D names R n command S k' (Err fault)
    each_fault m k' S (NoPermission where_ a) l = each_lacks where_ (plain_atom a) l
    each_fault m k' S Memory l = record {}

    pub each_joined : {A : Type 0} (m : ℕ) (ends : List End) (J : List (Atom ℕ)) (result : Result A ElabFault) → GuidedAll D names n each_branch ends m → JoinsOr D names R to giving ends J result → GoesOver D names R n command J m result
    each_joined m ends J result g j = goes_joined D names R n command each_branch opens_each ends m J result g j

-- ---- one case after the other

-- so far these branches were walked, to these ends; these are left
pub record CasesSo (D : Decls) (names : List ℕ) (n : ℕ) (branches : List Opening) (ends : List CodeEnd) (k : ℕ) (left : List Opening) : Type 0 where
  pub guided : (more : List End) (m : ℕ) → GuidedAll D names k left more m → GuidedAll D names n branches (plain_ends ends ++ more) m
  pub lacks : (place : Place) (a : Atom ℕ) → LacksIn D names k left place a → LacksIn D names n branches place a

module _ (D : Decls) (names : List ℕ) (n : ℕ) (start : CodeCase → Opening) (cases : List CodeCase) where
  pub cases_start : CasesSo D names n (map start cases) [] n (map start (drop 0 cases))
  cases_start = record { guided = λ more m g. g; lacks = λ place a l. l }

  module _ (ends : List CodeEnd) (i k : ℕ) (c : CodeCase) (w : i < length cases) (h : c ≡ get_or cases i c) (so : CasesSo D names n (map start cases) ends k (map start (drop i cases))) where
    left_so : map start (drop i cases) ≡ start c ∷ map start (drop (i + 1) cases)
    left_so = next_of start cases i c w h

    pub cases_next : (m : ℕ) (e : CodeEnd) (later : List CodeEnd) → WalksTo D names ((start c).begins k) (k + (start c).takes) (start c).body m e → later ≡ ends ++ e ∷ [] → CasesSo D names n (map start cases) later m (map start (drop (i + 1) cases))
    cases_next m e later walked is = record {
      guided = λ more p g. subst (λ l. GuidedAll D names n (map start cases) l p) (sym (joined more)) (so.guided (plain_end e ∷ more) p (subst (λ l. GuidedAll D names k l (plain_end e ∷ more) p) (sym left_so) (first_walked D names k (start c) (map start (drop (i + 1) cases)) m e more p walked g)));
      lacks = λ place a l. so.lacks place a (subst (λ bs. LacksIn D names k bs place a) (sym left_so) (next_lacks D names k (start c) (map start (drop (i + 1) cases)) m e place a walked l));
    }
      where
        joined : (more : List End) → plain_ends later ++ more ≡ plain_ends ends ++ plain_end e ∷ more
        joined more = ap (λ l. plain_ends l ++ more) is ∙ ap (λ l. l ++ more) (map-append plain_end ends (e ∷ [])) ∙ append_assoc (plain_ends ends) (plain_end e ∷ []) more

    pub cases_fault : (m : ℕ) (fault : ElabFault) → BranchOr D names k (start c) m (Err fault) → BranchesOr D names n (map start cases) m (Err fault)
    cases_fault m (NoPermission place a) l = so.lacks place (plain_atom a) (subst (λ bs. LacksIn D names k bs place (plain_atom a)) (sym left_so) (first_lacks D names k (start c) (map start (drop (i + 1) cases)) place (plain_atom a) l))
    cases_fault m Memory l = record {}

  pub cases_end : (ends : List CodeEnd) (i k : ℕ) → length cases ≤ i → CasesSo D names n (map start cases) ends k (map start (drop i cases)) → GuidedAll D names n (map start cases) (plain_ends ends) k
  cases_end ends i k w so = subst (λ l. GuidedAll D names n (map start cases) l k) (append-nil (plain_ends ends)) (so.guided [] k (subst (λ bs. GuidedAll D names k bs [] k) (sym (none_of start cases i w)) (Guided_none names k)))

-- the cases as they are seen
pub seen_cases : (g : Case → Opening) (cases : List CodeCase) → map (λ c. g (plain_case c)) cases ≡ map g (plain_cases cases)
seen_cases g [] = refl
seen_cases g (c ∷ cases) = ap (λ l. g (plain_case c) ∷ l) (seen_cases g cases)

-- ---- what is opened, and how

-- the name of the permission at the place of the first of a sort
pub own_is : (before R : List (Atom ℕ)) (y at : ℕ) (P : Ty ℕ → Type 0) (a : Atom ℕ) (f : IsFirstAt R y P at) → before ≡ R → slice_get before at ≡ Some a → subject_of a ≡ f.first.fits.name
own_is before R y at P a f e s = ap subject_of (some_is a f.one (sym s ∙ ap (λ l. slice_get l at) e ∙ f.first.stands) ∙ f.first.fits.is)

-- the block at the place of the first that tells its constructor
pub known_block : (D : Decls) (before R : List (Atom ℕ)) (y d at : ℕ) (f : IsFirstAt R y (BlockIn D d) at) → before ≡ R → slice_get before at ≡ Some (Has_atom f.first.fits.name (Block_type f.first.fits.fits.con f.first.fits.fits.names f.first.fits.fits.adopts))
known_block D before R y d at f e = ap (λ l. slice_get l at) e ∙ f.first.stands ∙ ap Some (f.first.fits.is ∙ ap (Has_atom f.first.fits.name) f.first.fits.fits.is)

-- what is known then goes into its place, or to the end
pub puts_of : (D : Decls) (R : List (Atom ℕ)) (at d : ℕ) → Affine D d ⊎ (Affine D d → ⊥) → (put : List (Atom ℕ) → List (Atom ℕ)) × PutsIn D R at d put
puts_of D R at d (inl a) = (in_place R at, inl (a, refl))
puts_of D R at d (inr n) = (at_end R, inr (n, refl))

pub same_cases : (D : Decls) (names : List ℕ) (n at d : ℕ) (cases : List Case) (m : ℕ) (result : Result (Vec CodeEnd Global) ElabFault) (before R : List (Atom ℕ)) (own name : ℕ) → before ≡ R → own ≡ name →
    ((put : List (Atom ℕ) → List (Atom ℕ)) → PutsIn D before at d put → BranchesOr D names n (map (open_case D own d put before) cases) m result) →
    (put : List (Atom ℕ) → List (Atom ℕ)) → PutsIn D R at d put → BranchesOr D names n (map (open_case D name d put R) cases) m result
same_cases D names n at d cases m result before R own name e o h put p =
    subst (λ x. BranchesOr D names n (map (open_case D x d put R) cases) m result) o (subst (λ X. PutsIn D X at d put → BranchesOr D names n (map (open_case D own d put X) cases) m result) e (h put) p)

-- ---- one case

-- the branch of a case that opens the block at its constructor
case_opens : (D : Decls) (y d n : ℕ) (put : List (Atom ℕ) → List (Atom ℕ)) (R : List (Atom ℕ)) (case : Case) (S : List (Atom ℕ)) (k : ℕ) → OpensCon D y d (con_of case) n put S k →
    ((open_case D y d put R case).begins n ≡ S) × (n + (open_case D y d put R case).takes ≡ k) × ((open_case D y d put R case).body ≡ body_of case)
case_opens D y d n put R (The_case con body) S k o =
    subst (λ x. ((open_con (clause_of D d) y con x put R body).begins n ≡ S) × (n + (open_con (clause_of D d) y con x put R body).takes ≡ k) × ((open_con (clause_of D d) y con x put R body).body ≡ body)) (sym o.is_con) (sym o.state, sym o.next, refl)

pub case_walked : (D : Decls) (names : List ℕ) (y d n : ℕ) (put : List (Atom ℕ) → List (Atom ℕ)) (R : List (Atom ℕ)) (case : Case) (S : List (Atom ℕ)) (k m : ℕ) (body : Body) (result : Result CodeEnd ElabFault) → OpensCon D y d (con_of case) n put S k → body_of case ≡ body → BodyOr D names S k body m result →
    BranchOr D names n (open_case D y d put R case) m result
case_walked D names y d n put R case S k m body result o is w =
    let b = open_case D y d put R case in
    let e = case_opens D y d n put R case S k o in
    subst (λ x. BodyOr D names (b.begins n) (n + b.takes) x m result) (sym (e.2 ∙ is)) (subst (λ x. BodyOr D names (b.begins n) x body m result) (sym e.1) (subst (λ x. BodyOr D names x k body m result) (sym e.0) w))
