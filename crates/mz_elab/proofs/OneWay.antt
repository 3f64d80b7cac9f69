-- What is guided leads to one state and one number: branches, joins and bodies.
use Rattle.std.proofs.Common.{◌≡◌, ◌≤◌, ◌+◌, inl, inr, ℕ, arith, List, [], ◌∷◌, ◌++◌, map, Option, refl, sym, ap, ◌∙◌, subst}
use Rattle.mz_tree.specs.Plain.{Ty, Atom, Int_type, Named_type, Block_type, Has_atom, Same_atom}
use Rattle.mz_tree.specs.Code.{Op, Command, Case, If_op, Match_op, case_list, con_of, body_of, to_of, op_of, commands_in}
use Rattle.mz_decl.specs.Declarations.{Decls}
use Rattle.mz_perm.specs.Lists.{TakesFirst}
use Rattle.mz_index.specs.Finding.{IsFirst, NoneFits, InClass}
use Rattle.mz_goal.proofs.Unique.{place_same, entry_same, need_same, needs_same}
use Rattle.mz_elab.specs.Acting.{Acts}
use Rattle.mz_elab.specs.Opening.{Opening, begin_with, open_case, in_place, at_end, BlockIn, KnownCase, EachCase, OpensIn, giving_of}
use Rattle.mz_elab.specs.Joins.{End, end_of, with_state, for_value, AllNeed, Gives, IsCommon, IsLeast, HoldsValue, Values, Value_named, Value_held, Value_left, Value_unknown, OutOfAll, LeavesAll, Shares, Restores, Joins, first_state}
use Rattle.mz_elab.specs.Guided.{Guided, Guided_ends, Guided_acts, Guided_branches, GuidedAll, Guided_none, Guided_one}
use Rattle.mz_elab.proofs.Same.{One, class_same, acts_same}

-- how branches begin
con_is : (c d : ℕ) (ys zs : List ℕ) (u v : Option ℕ) (t w : Ty ℕ) → t ≡ w → t ≡ Block_type c ys u → w ≡ Block_type d zs v → c ≡ d
con_is c d ys zs u v t w e p q = let r : Block_type c ys u ≡ w = sym p ∙ e in let s : Block_type c ys u ≡ Block_type d zs v = r ∙ q in cc

known_same : (D : Decls) (R : List (Atom ℕ)) (y d : ℕ) (cases : List Case) (b e : List Opening) → KnownCase D R y d cases b → KnownCase D R y d cases e → b ≡ e
known_same D R y d cases b e v w =
    let q = class_same R y (BlockIn D d) v.place w.place v.one w.one v.first w.first in
    let f = v.first.fits.fits in
    let g = w.first.fits.fits in
    let con : f.con ≡ g.con = con_is f.con g.con f.names g.names f.adopts g.adopts v.first.fits.ty w.first.fits.ty q.1 f.is g.is in
    let case : v.case ≡ w.case = entry_same (λ (k : Case). con_of k ≡ g.con) cases v.at w.at v.case w.case (subst (λ z. IsFirst (λ (k : Case). con_of k ≡ z) cases v.at v.case) con v.its) w.its in
    v.same ∙ ap (λ (k : Case). begin_with R (body_of k) ∷ []) case ∙ sym w.same

each_same : (D : Decls) (R : List (Atom ℕ)) (y d : ℕ) (cases : List Case) (b e : List Opening) → EachCase D R y d cases b → EachCase D R y d cases e → b ≡ e
each_same D R y d cases b e v w =
    let q = class_same R y (λ t. t ≡ Named_type d) v.place w.place v.one w.one v.first w.first in
    let at : v.place ≡ w.place = place_same (InClass R y (λ t. t ≡ Named_type d)) R v.place w.place v.one w.one v.first w.first in
    elim v.same [
      | inl f ↦ elim w.same [
        | inl g ↦ f.1 ∙ ap (λ n. map (open_case D n d (in_place R v.place) R) cases) q.0 ∙ ap (λ p. map (open_case D w.first.fits.name d (in_place R p) R) cases) at ∙ sym g.1
        | inr g ↦ absurd (g.0 f.0)
      ]
      | inr f ↦ elim w.same [
        | inl g ↦ absurd (f.0 g.0)
        | inr g ↦ f.1 ∙ ap (λ n. map (open_case D n d (at_end R) R) cases) q.0 ∙ sym g.1
      ]
    ]

pub opens_same : (D : Decls) (R : List (Atom ℕ)) (op : Op) (b e : List Opening) → OpensIn D R op b → OpensIn D R op e → b ≡ e
opens_same D R (If_op y one two giving) b e v w = v.same ∙ ap (λ S. begin_with S one ∷ begin_with S two ∷ []) (needs_same D R (Has_atom y Int_type ∷ []) v.left w.left v.needs w.needs) ∙ sym w.same
opens_same D R (Match_op y d cases giving) b e (inl v) (inl w) = known_same D R y d (case_list cases) b e v w
opens_same D R (Match_op y d cases giving) b e (inl v) (inr w) = absurd (w.alone v.place v.one v.first.stands v.first.fits)
opens_same D R (Match_op y d cases giving) b e (inr v) (inl w) = absurd (v.alone w.place w.one w.first.stands w.first.fits)
opens_same D R (Match_op y d cases giving) b e (inr v) (inr w) = each_same D R y d (case_list cases) b e v w
opens_same D R op b e v w = absurd v

-- a command has branches or it hasn't
pub no_acts : (D : Decls) (R : List (Atom ℕ)) (n c : ℕ) (op : Op) (T : List (Atom ℕ)) (m : ℕ) (b : List Opening) → Acts D R n c op T m → OpensIn D R op b → ⊥
no_acts D R n c (If_op y one two giving) T m b a o = a
no_acts D R n c (Match_op y d cases giving) T m b a o = a
no_acts D R n c op T m b a o = o

-- joins
pub all_need_same : (D : Decls) (c : ℕ) (g : Atom ℕ) (ends after other : List End) → AllNeed D c g ends after → AllNeed D c g ends other → after ≡ other
all_need_same D c g [] after other v w = v ∙ sym w
all_need_same D c g (e ∷ ends) after other v w =
    v.4 ∙ ap (λ T. with_state e T ∷ v.1) (need_same D e.state (for_value c e g) v.0 w.0 v.2 w.2) ∙ ap (λ r. with_state e w.0 ∷ r) (all_need_same D c g ends v.1 w.1 v.3 w.3) ∙ sym w.4

gives_same : (D : Decls) (c : ℕ) (giving : List (Atom ℕ)) (ends after other : List End) → Gives D c giving ends after → Gives D c giving ends other → after ≡ other
gives_same D c [] ends after other v w = v ∙ sym w
gives_same D c (g ∷ giving) ends after other v w = gives_same D c giving v.0 after other v.2 (subst (λ l. Gives D c giving l other) (sym (all_need_same D c g ends v.0 w.0 v.1 w.1)) w.2)

least_same : (P : ℕ → Type 0) (x y : ℕ) → IsLeast P x → IsLeast P y → x ≡ y
least_same P x y a b = let f : x ≤ y = a.least y b.fits in let g : y ≤ x = b.least x a.fits in omega (arith, f, g)

-- the value, seen from its end
record Valued (after other : List End) (v w : List (Atom ℕ)) : Type 0 where
  ends : after ≡ other
  value : v ≡ w

type_same : (names : List ℕ) (R : List (Atom ℕ)) (ends : List End) (n m : ℕ) (a b : Atom ℕ) (f : IsFirst (HoldsValue names R ends) (first_state ends) n a) (g : IsFirst (HoldsValue names R ends) (first_state ends) m b) → f.fits.ty ≡ g.fits.ty
type_same names R ends n m a b f g = has_ty f.fits.name g.fits.name f.fits.ty g.fits.ty (sym f.fits.is ∙ entry_same (HoldsValue names R ends) (first_state ends) n m a b f g ∙ g.fits.is)
  where
    has_ty : (x y : ℕ) (t u : Ty ℕ) → Has_atom x t ≡ Has_atom y u → t ≡ u
    has_ty x y t u e = cc

data ValuesShape (D : Decls) (names : List ℕ) (R : List (Atom ℕ)) (c : ℕ) (ends after : List End) (value : List (Atom ℕ)) : Type 0 where
  Named_shape : (x : ℕ) → IsLeast (IsCommon names ends) x → after ≡ ends → value ≡ Same_atom c x ∷ [] → ValuesShape D names R c ends after value
  Held_shape : (n : ℕ) (a : Atom ℕ) → ((x : ℕ) → IsCommon names ends x → ⊥) → (f : IsFirst (HoldsValue names R ends) (first_state ends) n a) → AllNeed D c (Has_atom c f.fits.ty) ends after → value ≡ Has_atom c f.fits.ty ∷ [] → ValuesShape D names R c ends after value
  Left_shape : (n : ℕ) (a : Atom ℕ) → ((x : ℕ) → IsCommon names ends x → ⊥) → (f : IsFirst (HoldsValue names R ends) (first_state ends) n a) → ((S : List End) → AllNeed D c (Has_atom c f.fits.ty) ends S → ⊥) → after ≡ ends → value ≡ [] → ValuesShape D names R c ends after value
  Unknown_shape : ((x : ℕ) → IsCommon names ends x → ⊥) → NoneFits (HoldsValue names R ends) (first_state ends) → after ≡ ends → value ≡ [] → ValuesShape D names R c ends after value

values_shape : (D : Decls) (names : List ℕ) (R : List (Atom ℕ)) (c : ℕ) (ends after : List End) (value : List (Atom ℕ)) → Values D names R c ends after value → ValuesShape D names R c ends after value
values_shape D names R c ends _ _ (Value_named x l) = Named_shape x l refl refl
values_shape D names R c ends _ _ (Value_held n a after none f all) = Held_shape n a none f all refl
values_shape D names R c ends _ _ (Value_left n a none f not) = Left_shape n a none f not refl refl
values_shape D names R c ends _ _ (Value_unknown none not) = Unknown_shape none not refl refl

values_same : (D : Decls) (names : List ℕ) (R : List (Atom ℕ)) (c : ℕ) (ends after other : List End) (v w : List (Atom ℕ)) → ValuesShape D names R c ends after v → ValuesShape D names R c ends other w → Valued after other v w
values_same D names R c ends after other v w (Named_shape x l e q) (Named_shape y k f r) = record { ends = e ∙ sym f; value = q ∙ ap (λ z. Same_atom c z ∷ []) (least_same (IsCommon names ends) x y l k) ∙ sym r }
values_same D names R c ends after other v w (Named_shape x l e q) (Held_shape n a none f all r) = absurd (none x l.fits)
values_same D names R c ends after other v w (Named_shape x l e q) (Left_shape n a none f not s r) = absurd (none x l.fits)
values_same D names R c ends after other v w (Named_shape x l e q) (Unknown_shape none not s r) = absurd (none x l.fits)
values_same D names R c ends after other v w (Held_shape n a none f all q) (Named_shape y k s r) = absurd (none y k.fits)
values_same D names R c ends after other v w (Held_shape n a none f all q) (Held_shape m b none2 g all2 r) =
    let t = type_same names R ends n m a b f g in
    record { ends = all_need_same D c (Has_atom c g.fits.ty) ends after other (subst (λ z. AllNeed D c (Has_atom c z) ends after) t all) all2; value = q ∙ ap (λ z. Has_atom c z ∷ []) t ∙ sym r }
values_same D names R c ends after other v w (Held_shape n a none f all q) (Left_shape m b none2 g not s r) = absurd (not after (subst (λ z. AllNeed D c (Has_atom c z) ends after) (type_same names R ends n m a b f g) all))
values_same D names R c ends after other v w (Held_shape n a none f all q) (Unknown_shape none2 not s r) = absurd (not n a f.stands f.fits)
values_same D names R c ends after other v w (Left_shape n a none f not e q) (Named_shape y k s r) = absurd (none y k.fits)
values_same D names R c ends after other v w (Left_shape n a none f not e q) (Held_shape m b none2 g all r) = absurd (not other (subst (λ z. AllNeed D c (Has_atom c z) ends other) (type_same names R ends m n b a g f) all))
values_same D names R c ends after other v w (Left_shape n a none f not e q) (Left_shape m b none2 g not2 s r) = record { ends = e ∙ sym s; value = q ∙ sym r }
values_same D names R c ends after other v w (Left_shape n a none f not e q) (Unknown_shape none2 not2 s r) = record { ends = e ∙ sym s; value = q ∙ sym r }
values_same D names R c ends after other v w (Unknown_shape none not e q) (Named_shape y k s r) = absurd (none y k.fits)
values_same D names R c ends after other v w (Unknown_shape none not e q) (Held_shape m b none2 g all r) = absurd (not m b g.stands g.fits)
values_same D names R c ends after other v w (Unknown_shape none not e q) (Left_shape m b none2 g not2 s r) = record { ends = e ∙ sym s; value = q ∙ sym r }
values_same D names R c ends after other v w (Unknown_shape none not e q) (Unknown_shape none2 not2 s r) = record { ends = e ∙ sym s; value = q ∙ sym r }

takes_first_same : (a : Atom ℕ) (xs ys zs : List (Atom ℕ)) → TakesFirst a xs ys → TakesFirst a xs zs → ys ≡ zs
takes_first_same a [] ys zs t u = absurd t
takes_first_same a (x ∷ xs) ys zs (inl t) (inl u) = t.1 ∙ sym u.1
takes_first_same a (x ∷ xs) ys zs (inl t) (inr u) = absurd (u.0 t.0)
takes_first_same a (x ∷ xs) ys zs (inr t) (inl u) = absurd (t.0 u.0)
takes_first_same a (x ∷ xs) ys zs (inr t) (inr u) = t.1.1 ∙ ap (λ l. x ∷ l) (takes_first_same a xs t.1.0 u.1.0 t.1.2 u.1.2) ∙ sym u.1.1

out_same : (a : Atom ℕ) (ends after other : List End) → OutOfAll a ends after → OutOfAll a ends other → after ≡ other
out_same a [] after other v w = v ∙ sym w
out_same a (e ∷ ends) after other v w = v.4 ∙ ap (λ T. with_state e T ∷ v.1) (takes_first_same a e.state v.0 w.0 v.2 w.2) ∙ ap (λ r. with_state e w.0 ∷ r) (out_same a ends v.1 w.1 v.3 w.3) ∙ sym w.4

leaves_same : (D : Decls) (a : Atom ℕ) (ends after other : List End) → LeavesAll D a ends after → LeavesAll D a ends other → after ≡ other
leaves_same D a ends after other (inl f) (inl g) = out_same a ends after other f.1 g.1
leaves_same D a ends after other (inl f) (inr g) = absurd (g.0 f.0)
leaves_same D a ends after other (inr f) (inl g) = absurd (f.0 g.0)
leaves_same D a ends after other (inr f) (inr g) = f.1 ∙ sym g.1

shares_same : (D : Decls) (names : List ℕ) (R l : List (Atom ℕ)) (ends after other : List End) (v w : List (Atom ℕ)) → Shares D names R l ends after v → Shares D names R l ends other w → Valued after other v w
shares_same D names R [] ends after other v w p q = record { ends = p.0 ∙ sym q.0; value = p.1 ∙ sym q.1 }
shares_same D names R (a ∷ l) ends after other v w (inl p) (inl q) =
    let S : p.1.0 ≡ q.1.0 = leaves_same D a ends p.1.0 q.1.0 p.1.2 q.1.2 in
    let r = shares_same D names R l p.1.0 after other p.1.1 q.1.1 p.1.3 (subst (λ z. Shares D names R l z other q.1.1) (sym S) q.1.3) in
    record { ends = r.ends; value = p.1.4 ∙ ap (λ z. a ∷ z) r.value ∙ sym q.1.4 }
shares_same D names R (a ∷ l) ends after other v w (inl p) (inr q) = absurd (q.0 p.0)
shares_same D names R (a ∷ l) ends after other v w (inr p) (inl q) = absurd (p.0 q.0)
shares_same D names R (a ∷ l) ends after other v w (inr p) (inr q) = shares_same D names R l ends after other v w p.1 q.1

restores_same : (D : Decls) (c : ℕ) (l join : List (Atom ℕ)) (ends after other : List End) (v w : List (Atom ℕ)) → Restores D c l join ends after v → Restores D c l join ends other w → Valued after other v w
restores_same D c [] join ends after other v w p q = record { ends = p.0 ∙ sym q.0; value = p.1 ∙ sym q.1 }
restores_same D c (a ∷ l) join ends after other v w (inl p) (inl q) = restores_same D c l (join ++ a ∷ []) p.0 after other v w p.2 (subst (λ z. Restores D c l (join ++ a ∷ []) z other w) (sym (all_need_same D c a ends p.0 q.0 p.1.1 q.1.1)) q.2)
restores_same D c (a ∷ l) join ends after other v w (inl p) (inr q) = absurd (q.0 p.0 p.1)
restores_same D c (a ∷ l) join ends after other v w (inr p) (inl q) = absurd (p.0 q.0 q.1)
restores_same D c (a ∷ l) join ends after other v w (inr p) (inr q) = restores_same D c l join ends after other v w p.1 q.1

pub joins_same : (D : Decls) (names : List ℕ) (R : List (Atom ℕ)) (c : ℕ) (giving : List (Atom ℕ)) (ends : List End) (J K : List (Atom ℕ)) → Joins D names R c giving ends J → Joins D names R c giving ends K → J ≡ K
joins_same D names R c giving ends J K v w =
    let given : v.given ≡ w.given = gives_same D c giving ends v.given w.given v.gives w.gives in
    let a = values_same D names R c w.given v.valued w.valued v.value w.value (subst (λ z. ValuesShape D names R c z v.valued v.value) given (values_shape D names R c v.given v.valued v.value v.values)) (values_shape D names R c w.given w.valued w.value w.values) in
    let b = shares_same D names R (first_state w.valued) w.valued v.shared w.shared v.share w.share (subst (λ z. Shares D names R (first_state z) z v.shared v.share) a.ends v.shares) w.shares in
    let start : (giving ++ v.value) ++ v.share ≡ (giving ++ w.value) ++ w.share = ap (λ z. (giving ++ z) ++ v.share) a.value ∙ ap (λ z. (giving ++ w.value) ++ z) b.value in
    (restores_same D c R ((giving ++ w.value) ++ w.share) w.shared v.restored w.restored J K (subst (λ z. Restores D c R ((giving ++ w.value) ++ w.share) z v.restored J) b.ends (subst (λ z. Restores D c R z v.shared v.restored J) start v.restores)) w.restores).value

-- a body seen from its commands
pub data GuidedShape (D : Decls) (names : List ℕ) (R : List (Atom ℕ)) (n : ℕ) (c : Command) (rest : List Command) (T : List (Atom ℕ)) (m : ℕ) : Type 0 where
  By_rule : (S : List (Atom ℕ)) (k : ℕ) → Acts D R n (to_of c) (op_of c) S k → Guided D (to_of c ∷ names) S k rest T m → GuidedShape D names R n c rest T m
  In_branches : (branches : List Opening) (ends : List End) (k : ℕ) (J : List (Atom ℕ)) → OpensIn D R (op_of c) branches → GuidedAll D names n branches ends k → Joins D names R (to_of c) (giving_of (op_of c)) ends J → Guided D (to_of c ∷ names) J k rest T m → GuidedShape D names R n c rest T m

abbrev pub BodyShape : Decls → List ℕ → List (Atom ℕ) → ℕ → List Command → List (Atom ℕ) → ℕ → Type 0
BodyShape D names R n [] T m = (T ≡ R) × (m ≡ n)
BodyShape D names R n (c ∷ rest) T m = GuidedShape D names R n c rest T m

pub body_shape : (D : Decls) (names : List ℕ) (R : List (Atom ℕ)) (n : ℕ) (commands : List Command) (T : List (Atom ℕ)) (m : ℕ) → Guided D names R n commands T m → BodyShape D names R n commands T m
body_shape D _ _ _ _ _ _ (Guided_ends names R n) = (refl, refl)
body_shape D _ _ _ _ _ _ (Guided_acts names R n c rest S k T m a g) = By_rule S k a g
body_shape D _ _ _ _ _ _ (Guided_branches names R n c rest branches ends k J T m o all j g) = In_branches branches ends k J o all j g

abbrev pub AllShape : Decls → List ℕ → ℕ → List Opening → List End → ℕ → Type 0
AllShape D names n [] ends m = (ends ≡ []) × (m ≡ n)
AllShape D names n (b ∷ branches) ends m = (T : List (Atom ℕ)) × (k : ℕ) × (rest : List End) × Guided D names (b.begins n) (n + b.takes) (commands_in b.body) T k × GuidedAll D names k branches rest m × (ends ≡ end_of b.body T ∷ rest)

pub branches_shape : (D : Decls) (names : List ℕ) (n : ℕ) (branches : List Opening) (ends : List End) (m : ℕ) → GuidedAll D names n branches ends m → AllShape D names n branches ends m
branches_shape D _ _ _ _ _ (Guided_none names n) = (refl, refl)
branches_shape D _ _ _ _ _ (Guided_one names n b branches T k ends m g all) = (T, k, ends, g, all, refl)

mutual
  pub guided_same : (D : Decls) (names : List ℕ) (R : List (Atom ℕ)) (n : ℕ) (commands : List Command) (T U : List (Atom ℕ)) (m k : ℕ) → Guided D names R n commands T m → Guided D names R n commands U k → One T U m k
  guided_same D _ _ _ _ _ U _ k (Guided_ends names R n) h = let s = body_shape D names R n [] U k h in (sym s.0, sym s.1)
  guided_same D _ _ _ _ _ U _ k (Guided_acts names R n c rest S j T m a g) h = elim (body_shape D names R n (c ∷ rest) U k h) [
    | By_rule S2 j2 b i ↦ (let e = acts_same D R n (to_of c) (op_of c) S S2 j j2 a b in guided_same D (to_of c ∷ names) S j rest T U m k g (subst (λ z. Guided D (to_of c ∷ names) S z rest U k) (sym e.1) (subst (λ z. Guided D (to_of c ∷ names) z j2 rest U k) (sym e.0) i)))
    | In_branches branches ends j2 J o all q i ↦ absurd (no_acts D R n (to_of c) (op_of c) S j branches a o)
  ]
  guided_same D _ _ _ _ _ U _ k (Guided_branches names R n c rest branches ends j J T m o all q g) h = elim (body_shape D names R n (c ∷ rest) U k h) [
    | By_rule S2 j2 b i ↦ absurd (no_acts D R n (to_of c) (op_of c) S2 j2 branches b o)
    | In_branches branches2 ends2 j2 K o2 all2 q2 i ↦ (
        let b = opens_same D R (op_of c) branches branches2 o o2 in
        let e = all_same_ends D names n branches ends ends2 j j2 all (subst (λ z. GuidedAll D names n z ends2 j2) (sym b) all2) in
        let join : J ≡ K = joins_same D names R (to_of c) (giving_of (op_of c)) ends J K q (subst (λ z. Joins D names R (to_of c) (giving_of (op_of c)) z K) (sym e.0) q2) in
        guided_same D (to_of c ∷ names) J j rest T U m k g (subst (λ z. Guided D (to_of c ∷ names) J z rest U k) (sym e.1) (subst (λ z. Guided D (to_of c ∷ names) z j2 rest U k) (sym join) i)))
  ]

  pub all_same_ends : (D : Decls) (names : List ℕ) (n : ℕ) (branches : List Opening) (ends other : List End) (m k : ℕ) → GuidedAll D names n branches ends m → GuidedAll D names n branches other k → (ends ≡ other) × (m ≡ k)
  all_same_ends D _ _ _ _ other _ k (Guided_none names n) h = let s = branches_shape D names n [] other k h in (sym s.0, sym s.1)
  all_same_ends D _ _ _ _ other _ k (Guided_one names n b branches T j ends m g all) h =
      let s = branches_shape D names n (b ∷ branches) other k h in
      let e = guided_same D names (b.begins n) (n + b.takes) (commands_in b.body) T s.0 j s.1 g s.3 in
      let r = all_same_ends D names j branches ends s.2 m k all (subst (λ z. GuidedAll D names z branches s.2 k) (sym e.1) s.4) in
      (ap (λ z. end_of b.body z ∷ ends) e.0 ∙ ap (λ z. end_of b.body s.0 ∷ z) r.0 ∙ sym s.5, r.1)
