-- What is guided leads to one state and one number: the commands without branches.
use Rattle.std.proofs.Common.{◌≡◌, ◌+◌, inl, inr, ℕ, suc, List, [], ◌∷◌, ◌++◌, length, map, take, drop, Option, None, Some, slice_get, slice_set, sym, ap, ◌∙◌, subst}
use Rattle.mz_tree.specs.Plain.{Ty, Atom, Int_type, Unknown_type, Dynamic_type, Locked_type, Named_type, Function_type, Block_type, Lock_type, Has_atom, Same_atom, atoms_of}
use Rattle.mz_tree.specs.Code.{Op, Int_op, Unit_op, Fun_op, Copy_op, Arith_op, New_op, Read_op, Write_op, Retag_op, If_op, Match_op, Call_op, Give_op, Take_op, New_lock_op, Acquire_op, Release_op, Spawn_op, Print_op}
use Rattle.mz_tree.specs.Programs.{Con, Need as SigNeed, Sig}
use Rattle.mz_decl.specs.Declarations.{Decls, clause_of}
use Rattle.mz_modes.specs.Affine.{Affine}
use Rattle.mz_decl.specs.Contents.{opened, names_from}
use Rattle.mz_decl.specs.Signatures.{needed, at_args, given}
use Rattle.mz_modes.specs.Calling.{GivesBack}
use Rattle.mz_lockrule.specs.Locking.{TypeGuards}
use Rattle.mz_flow.specs.Commands.{NamesFunction, LeavesAdopts}
use Rattle.mz_index.specs.Finding.{IsFirst, InClass}
use Rattle.mz_goal.specs.Goals.{Aside, unused, atoms}
use Rattle.mz_goal.specs.Needs.{Need, NeedBeside, Needs}
use Rattle.mz_goal.proofs.Unique.{place_same, entry_same, meets_same, need_same, needs_same}
use Rattle.mz_elab.specs.Acting.{BlockOf, OpensAt, FindsBlock, Reading, Changing, Written, Retagged, SignedWith, FindsFunction, Calling, Spawning, Meeting, ByData, AdoptsBy, AdoptsSome, with_clause, FindsAdopter, Giving, Taking, GuardsSome, FindsLock, Acquiring, Releasing, Acts}

some_is : {A : Type 0} (a b : A) → Some a ≡ Some b → a ≡ b
some_is a b e = cc

pub has_parts : (x y : ℕ) (t u : Ty ℕ) → Has_atom x t ≡ Has_atom y u → (x ≡ y) × (t ≡ u)
has_parts x y t u e = ((cc), (cc))

block_parts : (x y con : ℕ) (ys zs : List ℕ) (c d : Option ℕ) → Has_atom x (Block_type con ys c) ≡ Has_atom y (Block_type con zs d) → (x ≡ y) × (ys ≡ zs) × (c ≡ d)
block_parts x y con ys zs c d e = ((cc), (cc), (cc))

function_is : (s r : ℕ) (t u : Ty ℕ) → t ≡ Function_type s → u ≡ Function_type r → t ≡ u → s ≡ r
function_is s r t u p q e = let w : t ≡ Function_type r = e ∙ q in let v : Function_type s ≡ Function_type r = sym p ∙ w in cc

-- the name and the type that are found first
pub class_same : (R : List (Atom ℕ)) (x : ℕ) (P : Ty ℕ → Type 0) (n m : ℕ) (a b : Atom ℕ) (i : IsFirst (InClass R x P) R n a) (j : IsFirst (InClass R x P) R m b) → (i.fits.name ≡ j.fits.name) × (i.fits.ty ≡ j.fits.ty)
class_same R x P n m a b i j = has_parts i.fits.name j.fits.name i.fits.ty j.fits.ty (sym i.fits.is ∙ entry_same (InClass R x P) R n m a b i j ∙ j.fits.is)

-- a block is found in one way
record OneBlock (S T : List (Atom ℕ)) (m k place other y z : ℕ) (ys zs : List ℕ) (c d : Option ℕ) : Type 0 where
  state : S ≡ T
  next : m ≡ k
  at : place ≡ other
  name : y ≡ z
  names : ys ≡ zs
  clause : c ≡ d

opens_at : (D : Decls) (R S T l l2 : List (Atom ℕ)) (p q d e place other : ℕ) → p ≡ q → d ≡ e → l ≡ l2 → OpensAt D R p d l S place → OpensAt D R q e l2 T other → (S ≡ T) × (place ≡ other)
opens_at D R S T l l2 p q d e place other f g h (inl o) (inl u) = (o.1 ∙ ap (λ k. (take k R ++ l) ++ drop (suc k) R) f ∙ ap (λ k. (take q R ++ k) ++ drop (suc q) R) h ∙ sym u.1, o.2 ∙ f ∙ sym u.2)
opens_at D R S T l l2 p q d e place other f g h (inl o) (inr u) = absurd (u.0 (subst (Affine D) g o.0))
opens_at D R S T l l2 p q d e place other f g h (inr o) (inl u) = absurd (o.0 (subst (Affine D) (sym g) u.0))
opens_at D R S T l l2 p q d e place other f g h (inr o) (inr u) = (o.1 ∙ ap (λ k. R ++ k) h ∙ sym u.1, o.2 ∙ sym u.2)

named_at : (R : List (Atom ℕ)) (x d e n m y z : ℕ) → d ≡ e → IsFirst (InClass R x (λ t. t ≡ Named_type d)) R n (Has_atom y (Named_type d)) → IsFirst (InClass R x (λ t. t ≡ Named_type e)) R m (Has_atom z (Named_type e)) → (n ≡ m) × (y ≡ z)
named_at R x d e n m y z f i j =
    let i2 : IsFirst (InClass R x (λ t. t ≡ Named_type e)) R n (Has_atom y (Named_type e)) = subst (λ k. IsFirst (InClass R x (λ t. t ≡ Named_type k)) R n (Has_atom y (Named_type k))) f i in
    (place_same (InClass R x (λ t. t ≡ Named_type e)) R n m _ _ i2 j, (has_parts y z (Named_type e) (Named_type e) (entry_same (InClass R x (λ t. t ≡ Named_type e)) R n m _ _ i2 j)).0)

block_same : (D : Decls) (R : List (Atom ℕ)) (x con n : ℕ) (S T : List (Atom ℕ)) (m k place other y z : ℕ) (ys zs : List ℕ) (c d : Option ℕ) → FindsBlock D R x con n S m place y ys c → FindsBlock D R x con n T k other z zs d → OneBlock S T m k place other y z ys zs c d
block_same D R x con n S T m k place other y z ys zs c d (inl v) (inl w) =
    let P = InClass R x (BlockOf D con) in
    let q = block_parts y z con ys zs c d (entry_same P R place other _ _ v.first w.first) in
    record { state = v.state ∙ sym w.state; next = v.numbers ∙ sym w.numbers; at = place_same P R place other _ _ v.first w.first; name = q.0; names = q.1; clause = q.2 }
block_same D R x con n S T m k place other y z ys zs c d (inl v) (inr w) = absurd (w.alone place _ v.first.stands v.first.fits)
block_same D R x con n S T m k place other y z ys zs c d (inr v) (inl w) = absurd (v.alone other _ w.first.stands w.first.fits)
block_same D R x con n S T m k place other y z ys zs c d (inr v) (inr w) =
    let made : v.made ≡ w.made = some_is v.made w.made (sym v.is_con ∙ w.is_con) in
    let data_type : v.made.variety ≡ w.made.variety = ap (λ (r : Con). r.variety) made in
    let at = named_at R x v.made.variety w.made.variety v.at w.at y z data_type v.first w.first in
    let names : ys ≡ zs = v.names ∙ ap (λ (r : Con). names_from n (length r.fields)) made ∙ sym w.names in
    let clause : c ≡ d = v.adopts ∙ ap (λ (r : Con). clause_of D r.variety) made ∙ sym w.adopts in
    let new : opened y con ys c v.made.fields ≡ opened z con zs d w.made.fields =
    ap (λ r. opened r con ys c v.made.fields) at.1 ∙ ap (λ r. opened z con r c v.made.fields) names ∙ ap (λ r. opened z con zs r v.made.fields) clause ∙ ap (λ (r : Con). opened z con zs d r.fields) made in
    let o = opens_at D R S T (opened y con ys c v.made.fields) (opened z con zs d w.made.fields) v.at w.at v.made.variety w.made.variety place other at.0 data_type new v.state w.state in
    record { state = o.0; next = v.numbers ∙ ap (λ (r : Con). n + length r.fields) made ∙ sym w.numbers; at = o.1; name = at.1; names = names; clause = clause }

-- two states and two numbers that are one
abbrev pub One : List (Atom ℕ) → List (Atom ℕ) → ℕ → ℕ → Type 0
One T U m k = (T ≡ U) × (m ≡ k)

reading_same : (D : Decls) (R : List (Atom ℕ)) (n c x con field : ℕ) (T U : List (Atom ℕ)) (m k : ℕ) → Reading D R n c x con field T m → Reading D R n c x con field U k → One T U m k
reading_same D R n c x con field T U m k v w =
    let b = block_same D R x con n v.state w.state m k v.place w.place v.name w.name v.names w.names v.clause w.clause v.found w.found in
    let value : v.value ≡ w.value = some_is v.value w.value (sym v.at_field ∙ ap (λ l. slice_get l field) b.names ∙ w.at_field) in
    (v.new ∙ ap (λ l. l ++ Same_atom c v.value ∷ []) b.state ∙ ap (λ z. w.state ++ Same_atom c z ∷ []) value ∙ sym w.new, b.next)

changing_same : (D : Decls) (R : List (Atom ℕ)) (n c x con : ℕ) (becomes : List ℕ → Option ℕ → Ty ℕ → Type 0) (T U : List (Atom ℕ)) (m k : ℕ) → ((ys : List ℕ) (d : Option ℕ) (t u : Ty ℕ) → becomes ys d t → becomes ys d u → t ≡ u) → Changing D R n c x con becomes T m → Changing D R n c x con becomes U k → One T U m k
changing_same D R n c x con becomes T U m k one v w =
    let b = block_same D R x con n v.state w.state m k v.place w.place v.name w.name v.names w.names v.clause w.clause v.found w.found in
    let ty : v.ty ≡ w.ty = one w.names w.clause v.ty w.ty (subst (λ o. becomes w.names o v.ty) b.clause (subst (λ l. becomes l v.clause v.ty) b.names v.changed)) w.changed in
    let last = Has_atom c Unknown_type ∷ [] in
    (v.new ∙ ap (λ l. slice_set l v.place (Has_atom v.name v.ty) ++ last) b.state ∙ ap (λ p. slice_set w.state p (Has_atom v.name v.ty) ++ last) b.at ∙ ap (λ y. slice_set w.state w.place (Has_atom y v.ty) ++ last) b.name ∙ ap (λ t. slice_set w.state w.place (Has_atom w.name t) ++ last) ty ∙ sym w.new, b.next)

leaves_one : (D : Decls) (con : ℕ) (u v w : Option ℕ) → LeavesAdopts D con u v → LeavesAdopts D con u w → v ≡ w
leaves_one D con u v w (inl p) (inl q) = p.1 ∙ sym q.1
leaves_one D con u v w (inl p) (inr q) = absurd (q.0 p.0)
leaves_one D con u v w (inr p) (inl q) = absurd (p.0 q.0)
leaves_one D con u v w (inr p) (inr q) = p.1 ∙ sym q.1

retagged_one : (D : Decls) (new : ℕ) (ys : List ℕ) (d : Option ℕ) (t u : Ty ℕ) → Retagged D new ys d t → Retagged D new ys d u → t ≡ u
retagged_one D new ys d t u v w = v.2 ∙ ap (λ o. Block_type new ys o) (leaves_one D new d v.0 w.0 v.1 w.1) ∙ sym w.2

meeting_same : (D : Decls) (R goals more T U : List (Atom ℕ)) → Meeting D R goals more T → Meeting D R goals more U → T ≡ U
meeting_same D R goals more T U v w = v.new ∙ ap (λ l. l ++ more) (needs_same D R goals v.left w.left v.needs w.needs) ∙ sym w.new

pub function_same : (D : Decls) (R : List (Atom ℕ)) (g count : ℕ) (s r : Sig) → FindsFunction D R g count s → FindsFunction D R g count r → s ≡ r
function_same D R g count s r v w =
    let a = v.first.fits.fits in
    let b = w.first.fits.fits in
    let q = class_same R g (SignedWith D count) v.place w.place v.one w.one v.first w.first in
    let number : a.number ≡ b.number = function_is a.number b.number v.first.fits.ty w.first.fits.ty a.is b.is q.1 in
    v.same ∙ some_is a.sig b.sig (sym a.declared ∙ ap (slice_get D.sigs) number ∙ b.declared) ∙ sym w.same

back_same : (D : Decls) (needs : List SigNeed) (b d : List (Atom ℕ)) → GivesBack D needs b → GivesBack D needs d → b ≡ d
back_same D [] b d v w = v ∙ sym w
back_same D (n ∷ needs) b d (inl p) (inl q) = p.1.1 ∙ ap (λ l. n.atom ∷ l) (back_same D needs p.1.0 q.1.0 p.1.2 q.1.2) ∙ sym q.1.1
back_same D (n ∷ needs) b d (inl p) (inr q) = absurd (q.0 p.0)
back_same D (n ∷ needs) b d (inr p) (inl q) = absurd (p.0 q.0)
back_same D (n ∷ needs) b d (inr p) (inr q) = back_same D needs b d p.1 q.1

calling_same : (D : Decls) (R : List (Atom ℕ)) (c g : ℕ) (ys : List ℕ) (T U : List (Atom ℕ)) → Calling D R c g ys T → Calling D R c g ys U → T ≡ U
calling_same D R c g ys T U v w =
    let s : v.sig ≡ w.sig = function_same D R g (length ys) v.sig w.sig v.found w.found in
    let left : v.left ≡ w.left = needs_same D R (at_args ys (needed w.sig.needs)) v.left w.left (subst (λ (z : Sig). Needs D R (at_args ys (needed z.needs)) v.left) s v.needs) w.needs in
    let back : v.back ≡ w.back = back_same D w.sig.needs v.back w.back (subst (λ (z : Sig). GivesBack D z.needs v.back) s v.gives_back) w.gives_back in
    v.new ∙ ap (λ l. l ++ given ys c v.back v.sig.gives) left ∙ ap (λ l. w.left ++ given ys c l v.sig.gives) back ∙ ap (λ (z : Sig). w.left ++ given ys c w.back z.gives) s ∙ sym w.new

spawning_same : (D : Decls) (R : List (Atom ℕ)) (c g y : ℕ) (T U : List (Atom ℕ)) → Spawning D R c g y T → Spawning D R c g y U → T ≡ U
spawning_same D R c g y T U v w =
    let s : v.sig ≡ w.sig = function_same D R g 1 v.sig w.sig v.found w.found in
    let left : v.left ≡ w.left = needs_same D R (at_args (y ∷ []) (needed w.sig.needs)) v.left w.left (subst (λ (z : Sig). Needs D R (at_args (y ∷ []) (needed z.needs)) v.left) s v.needs) w.needs in
    v.new ∙ ap (λ l. l ++ Has_atom c Unknown_type ∷ []) left ∙ sym w.new

-- an adopter says one data type
by_data_one : (D : Decls) (con u v : ℕ) → ByData D con u → ByData D con v → u ≡ v
by_data_one D con u v p q = let made : p.0 ≡ q.0 = some_is p.0 q.0 (sym p.1 ∙ q.1) in some_is u v (sym p.2 ∙ ap (λ (r : Con). clause_of D r.variety) made ∙ q.2)

adopts_one : (D : Decls) (u v : ℕ) (t : Ty ℕ) → AdoptsBy D u t → AdoptsBy D v t → u ≡ v
adopts_one D u v (Named_type d) p q = some_is u v (sym p ∙ q)
adopts_one D u v (Block_type con ys (Some w)) p q = sym p ∙ q
adopts_one D u v (Block_type con ys None) p q = by_data_one D con u v p q
adopts_one D u v Int_type p q = absurd p
adopts_one D u v Unknown_type p q = absurd p
adopts_one D u v Dynamic_type p q = absurd p
adopts_one D u v Locked_type p q = absurd p
adopts_one D u v (Function_type s) p q = absurd p
adopts_one D u v (Lock_type l) p q = absurd p

pub record OneAdopter (u v place other : ℕ) (a b : Atom ℕ) (S T : List (Atom ℕ)) : Type 0 where
  pub clause : u ≡ v
  pub at : place ≡ other
  pub adopter : a ≡ b
  pub state : S ≡ T

pub adopter_same : (D : Decls) (R : List (Atom ℕ)) (y u v place other : ℕ) (a b : Atom ℕ) (S T : List (Atom ℕ)) → FindsAdopter D R y u place a S → FindsAdopter D R y v other b T → OneAdopter u v place other a b S T
adopter_same D R y u v place other a b S T p q =
    let P : Ty ℕ → Type 0 = AdoptsSome D in
    let c = class_same R y P place other p.found q.found p.first q.first in
    let at : place ≡ other = place_same (InClass R y P) R place other p.found q.found p.first q.first in
    let first = p.first.fits in
    let second = q.first.fits in
    let clause : u ≡ v = sym p.clause ∙ adopts_one D first.fits.0 second.fits.0 second.ty (subst (λ t. AdoptsBy D first.fits.0 t) c.1 first.fits.1.clause) second.fits.1.clause ∙ q.clause in
    let adopter : a ≡ b = p.now ∙ ap (λ z. Has_atom z (with_clause u first.ty)) c.0 ∙ ap (λ z. Has_atom second.name (with_clause z first.ty)) clause ∙ ap (λ z. Has_atom second.name (with_clause v z)) c.1 ∙ sym q.now in
    record { clause = clause; at = at; adopter = adopter; state = p.state ∙ ap (λ z. slice_set R z a) at ∙ ap (λ z. slice_set R other z) adopter ∙ sym q.state }

beside_same : (D : Decls) (R : List (Atom ℕ)) (place : ℕ) (a g : Atom ℕ) (T U : List (Atom ℕ)) → NeedBeside D R place a g T → NeedBeside D R place a g U → T ≡ U
beside_same D R place a g T U n m = n.is ∙ ap atoms (meets_same D (slice_set (map unused R) place (record { atom = a; mark = Aside })) g n.left m.left n.meets m.meets) ∙ sym m.is

giving_same : (D : Decls) (R : List (Atom ℕ)) (c x y : ℕ) (T U : List (Atom ℕ)) → Giving D R c x y T → Giving D R c x y U → T ≡ U
giving_same D R c x y T U v w =
    let a = adopter_same D R y v.u w.u v.place w.place v.adopter w.adopter v.state w.state v.found w.found in
    let need : NeedBeside D w.state w.place w.adopter (Has_atom x (Named_type w.u)) v.left =
    subst (λ z. NeedBeside D w.state w.place w.adopter (Has_atom x (Named_type z)) v.left) a.clause (subst (λ z. NeedBeside D w.state w.place z (Has_atom x (Named_type v.u)) v.left) a.adopter (subst (λ z. NeedBeside D w.state z v.adopter (Has_atom x (Named_type v.u)) v.left) a.at (subst (λ z. NeedBeside D z v.place v.adopter (Has_atom x (Named_type v.u)) v.left) a.state v.need))) in
    v.new ∙ ap (λ l. l ++ Has_atom x Dynamic_type ∷ Has_atom c Unknown_type ∷ []) (beside_same D w.state w.place w.adopter (Has_atom x (Named_type w.u)) v.left w.left need w.need) ∙ sym w.new

taking_same : (D : Decls) (R : List (Atom ℕ)) (c x y : ℕ) (T U : List (Atom ℕ)) → Taking D R c x y T → Taking D R c x y U → T ≡ U
taking_same D R c x y T U v w =
    let a = adopter_same D R y v.u w.u v.place w.place v.adopter w.adopter v.state w.state v.found w.found in
    let left : v.left ≡ w.left = need_same D w.state (Has_atom x Dynamic_type) v.left w.left (subst (λ z. Need D z (Has_atom x Dynamic_type) v.left) a.state v.need) w.need in
    v.new ∙ ap (λ l. l ++ Has_atom x (Named_type v.u) ∷ Has_atom c Unknown_type ∷ []) left ∙ ap (λ z. w.left ++ Has_atom x (Named_type z) ∷ Has_atom c Unknown_type ∷ []) a.clause ∙ sym w.new

-- what a lock guards is one list
guards_one : (t : Ty ℕ) (l k : List (Atom ℕ)) → TypeGuards t l → TypeGuards t k → l ≡ k
guards_one (Lock_type p) l k e f = e ∙ sym f
guards_one (Block_type con ys clause) l k e f = absurd e
guards_one (Named_type d) l k e f = absurd e
guards_one (Function_type s) l k e f = absurd e
guards_one Int_type l k e f = absurd e
guards_one Unknown_type l k e f = absurd e
guards_one Dynamic_type l k e f = absurd e
guards_one Locked_type l k e f = absurd e

pub lock_same : (R : List (Atom ℕ)) (l : ℕ) (p q : List (Atom ℕ)) → FindsLock R l p → FindsLock R l q → p ≡ q
lock_same R l p q v w =
    let same = (class_same R l GuardsSome v.place w.place v.one w.one v.first w.first).1 in
    guards_one w.first.fits.ty p q (subst (λ t. TypeGuards t p) same v.guards) w.guards

acquiring_same : (R : List (Atom ℕ)) (c l : ℕ) (T U : List (Atom ℕ)) → Acquiring R c l T → Acquiring R c l U → T ≡ U
acquiring_same R c l T U v w = v.new ∙ ap (λ z. (R ++ z) ++ Has_atom l Locked_type ∷ Has_atom c Unknown_type ∷ []) (lock_same R l v.guarded w.guarded v.found w.found) ∙ sym w.new

releasing_same : (D : Decls) (R : List (Atom ℕ)) (c l : ℕ) (T U : List (Atom ℕ)) → Releasing D R c l T → Releasing D R c l U → T ≡ U
releasing_same D R c l T U v w =
    meeting_same D R (w.guarded ++ Has_atom l Locked_type ∷ []) (Has_atom c Unknown_type ∷ []) T U (subst (λ z. Meeting D R (z ++ Has_atom l Locked_type ∷ []) (Has_atom c Unknown_type ∷ []) T) (lock_same R l v.guarded w.guarded v.found w.found) v.meets) w.meets

naming_same : (D : Decls) (R : List (Atom ℕ)) (c f : ℕ) (T U : List (Atom ℕ)) → NamesFunction D R c f T → NamesFunction D R c f U → T ≡ U
naming_same D R c f T U v w = v.new ∙ ap (λ s. R ++ Has_atom c (Function_type s) ∷ []) (some_is v.sig w.sig (sym v.declared ∙ w.declared)) ∙ sym w.new

pub acts_same : (D : Decls) (R : List (Atom ℕ)) (n c : ℕ) (op : Op) (T U : List (Atom ℕ)) (m k : ℕ) → Acts D R n c op T m → Acts D R n c op U k → One T U m k
acts_same D R n c (Int_op v) T U m k a b = (a.0 ∙ sym b.0, a.1 ∙ sym b.1)
acts_same D R n c Unit_op T U m k a b = (a.0 ∙ sym b.0, a.1 ∙ sym b.1)
acts_same D R n c (Fun_op f) T U m k a b = (naming_same D R c f T U a.0 b.0, a.1 ∙ sym b.1)
acts_same D R n c (Copy_op y) T U m k a b = (a.0 ∙ sym b.0, a.1 ∙ sym b.1)
acts_same D R n c (Arith_op o y z) T U m k a b = (meeting_same D R (Has_atom y Int_type ∷ Has_atom z Int_type ∷ []) (Has_atom c Int_type ∷ []) T U a.0 b.0, a.1 ∙ sym b.1)
acts_same D R n c (New_op con ys) T U m k a b = (a.0 ∙ sym b.0, a.1 ∙ sym b.1)
acts_same D R n c (Read_op x con field) T U m k a b = reading_same D R n c x con field T U m k a b
acts_same D R n c (Write_op x con field z) T U m k a b = changing_same D R n c x con (Written con field z) T U m k (λ ys d t u v w. v ∙ sym w) a b
acts_same D R n c (Retag_op x old new) T U m k a b = changing_same D R n c x old (Retagged D new) T U m k (retagged_one D new) a b
acts_same D R n c (Call_op g ys) T U m k a b = (calling_same D R c g ys T U a.0 b.0, a.1 ∙ sym b.1)
acts_same D R n c (Give_op x y) T U m k a b = (giving_same D R c x y T U a.0 b.0, a.1 ∙ sym b.1)
acts_same D R n c (Take_op x y) T U m k a b = (taking_same D R c x y T U a.0 b.0, a.1 ∙ sym b.1)
acts_same D R n c (New_lock_op p) T U m k a b = (meeting_same D R p (Has_atom c (Lock_type (atoms_of p)) ∷ []) T U a.0 b.0, a.1 ∙ sym b.1)
acts_same D R n c (Acquire_op l) T U m k a b = (acquiring_same R c l T U a.0 b.0, a.1 ∙ sym b.1)
acts_same D R n c (Release_op l) T U m k a b = (releasing_same D R c l T U a.0 b.0, a.1 ∙ sym b.1)
acts_same D R n c (Spawn_op g y) T U m k a b = (spawning_same D R c g y T U a.0 b.0, a.1 ∙ sym b.1)
acts_same D R n c (Print_op y) T U m k a b = (meeting_same D R (Has_atom y Int_type ∷ []) (Has_atom c Unknown_type ∷ []) T U a.0 b.0, a.1 ∙ sym b.1)
acts_same D R n c (If_op y one two giving) T U m k a b = absurd a
acts_same D R n c (Match_op y d cases giving) T U m k a b = absurd a
