-- A command that is made by its rule from permissions that can be written uses one that can, and so can those to which it
-- leads.
use Rattle.std.proofs.Common.{◌≡◌, ◌≢◌, inl, inr, ℕ, zero, suc, ◌+◌, ◌<◌, ◌≤◌, List, [], ◌∷◌, ◌++◌, map, length, max, Option, Some, None, slice_get, slice_set, refl, sym, ap, ◌∙◌, subst, arith}
use Rattle.std.specs.Prelude.{IfSome}
use Rattle.std.proofs.lemmas.Option.{slice_get_within}
use Rattle.mz_tree.specs.Plain.{Atom, Atoms, Int_type, Unknown_type, Dynamic_type, Locked_type, Named_type, Function_type, Block_type, Lock_type, Has_atom, Same_atom, No_atoms, More_atoms, map_atom, list_of, atoms_of}
use Rattle.mz_tree.specs.Programs.{Con, Need, Sig, Fun, Program}
use Rattle.mz_tree.specs.Code.{Op, Int_op, Unit_op, Fun_op, Copy_op, Arith_op, New_op, Read_op, Write_op, Retag_op, If_op, Match_op, Call_op, Give_op, Take_op, New_lock_op, Acquire_op, Release_op, Spawn_op, Print_op}
use Rattle.mz_tree.specs.Renaming.{name_at}
use Rattle.mz_tree.specs.Scoped.{Each, Scope, IsBound, AreBound, names_below, HasFields, AreAlike, AreAtomsWithin, IsOp, FitsAtom, FitsAtoms, atom_depth, depth_in, Scoped}
use Rattle.mz_decl.specs.Declarations.{decls_of}
use Rattle.mz_decl.specs.Signatures.{needed, at_args, given}
use Rattle.mz_modes.specs.Calling.{GivesBack}
use Rattle.mz_perm.specs.Lists.{In, Any_copy}
use Rattle.mz_perm.proofs.Orders.{in_of}
use Rattle.mz_flow.specs.Commands.{LeavesAdopts, Reads, Writes, Retags}
use Rattle.mz_adopt.specs.Adopting.{IsAdopter, Gives, Takes}
use Rattle.mz_lockrule.specs.Locking.{IsLock, Locks, Acquires}
use Rattle.mz_view.specs.Spots.{names_in_atom}
use Rattle.mz_deriv.specs.Rules.{Rule}
use Rattle.mz_deriv.specs.Spelled.{IsNumber, IsWritable}
use Rattle.mz_deriv.proofs.Membership.{in_get, get_in, in_set, in_parts, in_image}
use Rattle.mz_deriv.proofs.Bare.{bare_depth, bare_type, nameless_map, names_map, bare_atom, depth_of_atom, FitsBare, depth_of_atoms, known_atoms}
use Rattle.mz_deriv.proofs.Written.{Written, AllWritten, AllNumbers, nth_number, writable, written_from, written_end, written_parts, written_taken, written_all_used, has_int, has_unknown, has_dynamic, has_locked, has_named, has_function, has_block, same_written, subject_number, block_fields, block_names, clause_fits}
use Rattle.mz_deriv.proofs.WrittenSteps.{set_length}

-- what is said to be used can be written, and so can all to which the command leads
abbrev pub RuleWritten : Program → Option (Atom ℕ) → List (Atom ℕ) → Type 0
RuleWritten p uses T = IfSome uses (IsWritable p) × AllWritten p T

-- the names that are bound are numbers
abbrev pub ScopeNumbers : Scope → Type 0
ScopeNumbers scope = (x : ℕ) → IsBound scope x → IsNumber x

-- what the image of a list has at a place is the image of what it has there
mapped_get : {A B : Type 0} (f : A → B) (xs : List A) (k : ℕ) (y : B) → slice_get (map f xs) k ≡ Some y → (x : A) × (slice_get xs k ≡ Some x) × (f x ≡ y)
mapped_get f [] k y e = absurd (cc)
mapped_get f (x ∷ xs) zero y e = (x, refl, cc)
mapped_get f (x ∷ xs) (suc k) y e = mapped_get f xs k y e

-- no list of permissions but the empty one is none
guards_some : (q : List (Atom ℕ)) → q ≢ [] → atoms_of q ≢ No_atoms
guards_some [] n e = n refl
guards_some (a ∷ q) n e = absurd (cc)

module _ (p : Program) (s : Scoped p) where
  bound_numbers : (scope : Scope) (ys : List ℕ) → ScopeNumbers scope → AreBound scope ys → AllNumbers ys
  bound_numbers scope ys k b n i = let g = in_get n ys i in k n (b g.0 n g.1)

  -- ---- what a signature says, with numbers for its names

  args_written : (ys : List ℕ) (atoms : List (Atom ℕ)) → AllNumbers ys → ((a : Atom ℕ) → In a atoms → (Known : ℕ → Type 0) × FitsAtom p Known a × (atom_depth a ≤ 200)) → AllWritten p (at_args ys atoms)
  args_written ys atoms k fits b i =
      let r = in_image (map_atom (name_at ys)) b atoms i in
      let f = fits r.0 r.1 in
      subst (Written p) (sym r.2) (with_names r.0 f.0 f.1 f.2)
    where
      with_names : (a : Atom ℕ) (Known : ℕ → Type 0) → FitsAtom p Known a → atom_depth a ≤ 200 → Written p (map_atom (name_at ys) a)
      with_names a Known f d = record {
        bare = subst (FitsBare p) (sym (nameless_map (name_at ys) a)) (bare_atom p Known a f);
        shallow = subst (λ b. bare_depth b ≤ 200) (sym (nameless_map (name_at ys) a)) (subst (λ n. n ≤ 200) (sym (depth_of_atom a)) d);
        names = λ n j. (let q = in_image (name_at ys) n (names_in_atom a) (subst (λ l. In n l) (names_map (name_at ys) a) j) in subst IsNumber (sym q.2) (nth_number ys k q.0));
      }

  -- what comes back are needs
  back_fits : (needs : List Need) (back : List (Atom ℕ)) → GivesBack (decls_of p) needs back → (a : Atom ℕ) → In a back → (n : Need) × In n needs × (n.atom ≡ a)
  back_fits [] back g a i = absurd (subst (λ l. In a l) g i)
  back_fits (n ∷ needs) back (inl g) a i = elim (subst (λ l. In a l) g.1.1 i) [
    | inl e ↦ (n, inl refl, sym e)
    | inr j ↦ (let r = back_fits needs g.1.0 g.1.2 a j in (r.0, inr r.1, r.2))
  ]
  back_fits (n ∷ needs) back (inr g) a i = let r = back_fits needs back g.1 a i in (r.0, inr r.1, r.2)

  given_written : (number : ℕ) (sig : Sig) (ys : List ℕ) (c : ℕ) (back : List (Atom ℕ)) → slice_get p.sigs number ≡ Some sig → AllNumbers ys → IsNumber c → GivesBack (decls_of p) sig.needs back → AllWritten p (given ys c back sig.gives)
  given_written number sig ys c back e k h g =
      let of_sig = s.sigs number sig e in
      let more : AllNumbers (ys ++ c ∷ []) = λ n i. elim (in_parts n ys (c ∷ []) i) [ inl j ↦ k n j | inr j ↦ (elim j [ inl q ↦ subst IsNumber (sym q) h | inr none ↦ absurd none ]) ] in
      written_parts p (at_args ys back) (at_args (ys ++ c ∷ []) sig.gives) (given ys c back sig.gives) refl
      (args_written ys back k (λ a i. (
      let r = back_fits sig.needs back g a i in
      let q = in_get r.0 sig.needs r.1 in
      let w = of_sig.needs q.0 r.0 q.1 in
      (IsBound (names_below sig.count), subst (λ z. FitsAtom p (IsBound (names_below sig.count)) z) r.2 w.0, subst (λ z. atom_depth z ≤ 200) r.2 w.1)
      )))
      (args_written (ys ++ c ∷ []) sig.gives more (λ a i. (let q = in_get a sig.gives i in let w = of_sig.gives q.0 a q.1 in (IsBound (names_below (sig.count + 1)), w.0, w.1))))

  -- ---- blocks

  -- one permission goes, another comes for it, and the command's name gets `()`
  replaced_written : (R rest T : List (Atom ℕ)) (b : Atom ℕ) (c : ℕ) → AllWritten p rest → T ≡ (rest ++ b ∷ []) ++ Has_atom c Unknown_type ∷ [] → IsNumber c → Written p b → AllWritten p T
  replaced_written R rest T b c all e h w = written_end p (rest ++ b ∷ []) (Has_atom c Unknown_type) T e (written_end p rest b (rest ++ b ∷ []) refl all w) (has_unknown p c h)

  read_written : (R : List (Atom ℕ)) (c y con field : ℕ) (a : Atom ℕ) (T : List (Atom ℕ)) → Reads R c y con field a T → AllWritten p R → IsNumber c → RuleWritten p (Some a) T
  read_written R c y con field a T r all h =
      let w = all a r.held in
      let z = block_names p y con r.fields r.adopts (subst (Written p) r.block w) r.name (get_in r.fields field r.name r.at_field) in
      (writable p a w, written_end p R (Same_atom c r.name) T r.new all (same_written p c r.name h z))

  write_written : (R : List (Atom ℕ)) (c y con field z : ℕ) (a : Atom ℕ) (T : List (Atom ℕ)) → Writes Any_copy (decls_of p) R c y con field z a T → AllWritten p R → IsNumber c → IsNumber z → RuleWritten p (Some a) T
  write_written R c y con field z a T r all h k =
      let w = all a (in_of a R r.changed.rest r.changed.taken) in
      let b = subst (Written p) r.block w in (
        writable p a w,
        replaced_written R r.changed.rest T (Has_atom y (Block_type con (slice_set r.fields field z) r.adopts)) c (written_taken p a R r.changed.rest r.changed.taken all) r.changed.new h
            (has_block p y con (slice_set r.fields field z) r.adopts (subject_number p y (Block_type con r.fields r.adopts) b) (subst (λ n. HasFields p con n) (sym (set_length r.fields field z)) (block_fields p y con r.fields r.adopts b))
            (λ n j. elim (in_set r.fields field z n j) [ inl o ↦ block_names p y con r.fields r.adopts b n o | inr e ↦ subst IsNumber (sym e) k ]) b.bare.1),
      )

  -- a constructor has just so many fields
  fields_once : (con n m : ℕ) → HasFields p con n → HasFields p con m → n ≡ m
  fields_once con n m f g = let e : f.found ≡ g.found = cc in sym f.fields ∙ ap (λ (c : Con). length c.fields) e ∙ g.fields

  retag_written : (R : List (Atom ℕ)) (c y old new : ℕ) (a : Atom ℕ) (T : List (Atom ℕ)) → Retags Any_copy (decls_of p) R c y old new a T → AllWritten p R → IsNumber c → AreAlike p old new → RuleWritten p (Some a) T
  retag_written R c y old new a T r all h k =
      let w = all a (in_of a R r.changed.rest r.changed.taken) in
      let b = subst (Written p) r.block w in
      let many : k.count ≡ length r.fields = fields_once old k.count (length r.fields) k.before (block_fields p y old r.fields r.adopts b) in (
        writable p a w,
        replaced_written R r.changed.rest T (Has_atom y (Block_type new r.fields r.left)) c (written_taken p a R r.changed.rest r.changed.taken all) r.changed.new h
            (has_block p y new r.fields r.left (subject_number p y (Block_type old r.fields r.adopts) b) (subst (λ n. HasFields p new n) many k.after) (block_names p y old r.fields r.adopts b) (left_fits r.left r.adopts_left b.bare.1)),
      )
    where
      left_fits : (left : Option ℕ) → LeavesAdopts (decls_of p) new r.adopts left → IfSome r.adopts (λ u. u < length p.varieties) → IfSome left (λ u. u < length p.varieties)
      left_fits left (inl q) f = subst (λ o. IfSome o (λ u. u < length p.varieties)) (sym q.1) f
      left_fits left (inr q) f = subst (λ o. IfSome o (λ u. u < length p.varieties)) (sym q.1) tt

  -- ---- adoption

  adopted_fits : (y u : ℕ) (a : Atom ℕ) → IsAdopter (decls_of p) y u a → Written p a → u < length p.varieties
  adopted_fits y u (Has_atom x (Block_type con ys adopts)) i w = some_fits adopts i.1 w.bare.1
    where
      some_fits : (o : Option ℕ) → o ≡ Some u → IfSome o (λ d. d < length p.varieties) → u < length p.varieties
      some_fits o e f = let g = subst (λ q. IfSome q (λ d. d < length p.varieties)) e f in g
  adopted_fits y u (Has_atom x (Named_type d)) i w = let g = subst (λ q. IfSome q (λ n. n < length p.varieties)) i.1 (clause_fits p s d) in g
  adopted_fits y u (Has_atom x t) i w = absurd i.1
  adopted_fits y u (Same_atom x z) i w = absurd i

  give_written : (R : List (Atom ℕ)) (c x y : ℕ) (a : Atom ℕ) (T : List (Atom ℕ)) → Gives Any_copy (decls_of p) R c x y a T → AllWritten p R → IsNumber c → RuleWritten p (Some a) T
  give_written R c x y a T r all h =
      let left = written_taken p (Has_atom x (Named_type r.adopted)) R r.rest r.taken all in
      let k = subject_number p x (Named_type r.adopted) (all (Has_atom x (Named_type r.adopted)) (in_of (Has_atom x (Named_type r.adopted)) R r.rest r.taken)) in
      (writable p a (left a r.held), replaced_written R r.rest T (Has_atom x Dynamic_type) c left r.new h (has_dynamic p x k))

  take_written : (R : List (Atom ℕ)) (c x y : ℕ) (a : Atom ℕ) (T : List (Atom ℕ)) → Takes (decls_of p) R c x y a T → AllWritten p R → IsNumber c → RuleWritten p (Some a) T
  take_written R c x y a T r all h =
      let w = all a r.held in
      let k = subject_number p x Dynamic_type (all (Has_atom x Dynamic_type) r.may_ask) in
      (writable p a w, replaced_written R R T (Has_atom x (Named_type r.adopted)) c all r.new h (has_named p x r.adopted k (adopted_fits y r.adopted a r.adopter w)))

  -- ---- locks and threads

  fits_guarded : (Known : ℕ → Type 0) (q : List (Atom ℕ)) → Each (λ _ a. FitsAtom p Known a × (atom_depth a ≤ 199)) q → FitsAtoms p Known (atoms_of q) × (depth_in (atoms_of q) ≤ 199)
  fits_guarded Known [] e = (tt, omega arith)
  fits_guarded Known (a ∷ q) e =
      let w = e 0 a refl in
      let r = fits_guarded Known q (λ k b g. e (suc k) b g) in
      ((w.0, r.0), both (atom_depth a) (depth_in (atoms_of q)) w.1 r.1)
    where
      both : (n m : ℕ) → n ≤ 199 → m ≤ 199 → max n m ≤ 199
      both n m h k = omega (arith, h, k)

  lock_written : (R : List (Atom ℕ)) (c : ℕ) (guarded T : List (Atom ℕ)) (scope : Scope) → Locks Any_copy (decls_of p) R c guarded T → AllWritten p R → IsNumber c → ScopeNumbers scope → (guarded ≢ []) × AreAtomsWithin p 199 scope guarded → AllWritten p T
  lock_written R c guarded T scope r all h k g =
      let f = fits_guarded (IsBound scope) guarded g.1 in
      let d = f.1 in
      written_end p r.rest (Has_atom c (Lock_type (atoms_of guarded))) T r.new (written_all_used p guarded R r.rest r.used all)
      (record {
        bare = bare_type p (IsBound scope) (Lock_type (atoms_of guarded)) (guards_some guarded g.0, f.0);
        shallow = subst (λ n. 1 + n ≤ 200) (sym (depth_of_atoms (atoms_of guarded))) (omega (arith, d));
        names = λ n i. elim i [ inl e ↦ subst IsNumber (sym e) h | inr j ↦ k n (known_atoms p (IsBound scope) (atoms_of guarded) f.0 n j) ];
      })

  -- what a lock guards
  guarded_in : (q : Atoms ℕ) → FitsAtoms p IsNumber q → depth_in q ≤ 199 → AllWritten p (list_of q)
  guarded_in No_atoms f d a i = absurd i
  guarded_in (More_atoms b q) f d a (inl e) = subst (Written p) (sym e) (written_from p IsNumber b f.0 (first (atom_depth b) (depth_in q) d) (λ n k. k))
    where
      first : (n m : ℕ) → max n m ≤ 199 → n ≤ 200
      first n m h = omega (arith, h)
  guarded_in (More_atoms b q) f d a (inr i) = guarded_in q f.1 (second (atom_depth b) (depth_in q) d) a i
    where
      second : (n m : ℕ) → max n m ≤ 199 → m ≤ 199
      second n m h = omega (arith, h)

  guarded_written : (l : ℕ) (a : Atom ℕ) (guarded : List (Atom ℕ)) → IsLock l a guarded → Written p a → AllWritten p guarded × IsNumber l
  guarded_written l (Has_atom x (Lock_type q)) guarded i w =
      let g = writable p (Has_atom x (Lock_type q)) w in
      let d = g.1 in
      (subst (AllWritten p) (sym i.1) (guarded_in q g.0.1.1 (omega (arith, d))), subst IsNumber i.0 g.0.0)
  guarded_written l (Has_atom x t) guarded i w = absurd i.1
  guarded_written l (Same_atom x y) guarded i w = absurd i

  acquire_written : (R : List (Atom ℕ)) (c l : ℕ) (a : Atom ℕ) (T : List (Atom ℕ)) → Acquires R c l a T → AllWritten p R → IsNumber c → RuleWritten p (Some a) T
  acquire_written R c l a T r all h =
      let w = all a r.held in
      let g = guarded_written l a r.guarded r.lock w in (
        writable p a w,
        written_end p (R ++ (r.guarded ++ Has_atom l Locked_type ∷ [])) (Has_atom c Unknown_type) T r.new
            (written_parts p R (r.guarded ++ Has_atom l Locked_type ∷ []) (R ++ (r.guarded ++ Has_atom l Locked_type ∷ [])) refl all (written_end p r.guarded (Has_atom l Locked_type) (r.guarded ++ Has_atom l Locked_type ∷ []) refl g.0 (has_locked p l g.1)))
            (has_unknown p c h),
      )

  -- ---- each rule

  pub rule_written : (spelling : List (List ℕ)) (scope : Scope) (n c : ℕ) (op : Op) (uses : Option (Atom ℕ)) (R T : List (Atom ℕ)) → Rule (decls_of p) R c op uses T → AllWritten p R → IsNumber c → ScopeNumbers scope → IsOp p spelling scope n c op → RuleWritten p uses T
  rule_written spelling scope n c (Int_op value) None R T r all h k o = (tt, written_end p R (Has_atom c Int_type) T r all (has_int p c h))
  rule_written spelling scope n c (Int_op value) (Some a) R T r all h k o = absurd r
  rule_written spelling scope n c Unit_op None R T r all h k o = (tt, written_end p R (Has_atom c Unknown_type) T r all (has_unknown p c h))
  rule_written spelling scope n c Unit_op (Some a) R T r all h k o = absurd r
  rule_written spelling scope n c (Fun_op function) None R T r all h k o =
      let q = mapped_get (λ (f : Fun). f.sig) p.funs function r.sig r.declared in
      let f = s.funs function q.0 q.1 in
      let l : r.sig < length p.sigs = slice_get_within p.sigs r.sig f.sig (subst (λ z. slice_get p.sigs z ≡ Some f.sig) q.2 f.signed) in
      (tt, written_end p R (Has_atom c (Function_type r.sig)) T r.new all (has_function p c r.sig h l))
  rule_written spelling scope n c (Fun_op function) (Some a) R T r all h k o = absurd r
  rule_written spelling scope n c (Copy_op y) None R T r all h k o = (tt, written_end p R (Same_atom c y) T r all (same_written p c y h (k y o)))
  rule_written spelling scope n c (Copy_op y) (Some a) R T r all h k o = absurd r
  rule_written spelling scope n c (Arith_op operator y z) None R T r all h k o = (tt, written_end p R (Has_atom c Int_type) T r.new all (has_int p c h))
  rule_written spelling scope n c (Arith_op operator y z) (Some a) R T r all h k o = absurd r
  rule_written spelling scope n c (New_op con fields) None R T r all h k o = (tt, written_end p R (Has_atom c (Block_type con fields None)) T r all (has_block p c con fields None h o.0 (bound_numbers scope fields k o.1) tt))
  rule_written spelling scope n c (New_op con fields) (Some a) R T r all h k o = absurd r
  rule_written spelling scope n c (Read_op y con field) None R T r all h k o = absurd r
  rule_written spelling scope n c (Read_op y con field) (Some a) R T r all h k o = read_written R c y con field a T r all h
  rule_written spelling scope n c (Write_op y con field z) None R T r all h k o = absurd r
  rule_written spelling scope n c (Write_op y con field z) (Some a) R T r all h k o = write_written R c y con field z a T r all h (k z o.2)
  rule_written spelling scope n c (Retag_op y old new) None R T r all h k o = absurd r
  rule_written spelling scope n c (Retag_op y old new) (Some a) R T r all h k o = retag_written R c y old new a T r all h o.1
  rule_written spelling scope n c (Call_op g ys) None R T r all h k o = absurd r
  rule_written spelling scope n c (Call_op g ys) (Some a) R T r all h k o = (
    writable p a (all a r.callee.held),
    written_parts p r.rest (given ys c r.back r.callee.sig.gives) T r.new (written_all_used p (at_args ys (needed r.callee.sig.needs)) R r.rest r.used all)
        (given_written r.callee.number r.callee.sig ys c r.back r.callee.declared (bound_numbers scope ys k o.1) h r.gives_back),
  )
  rule_written spelling scope n c (Print_op y) None R T r all h k o = (tt, written_end p R (Has_atom c Unknown_type) T r.new all (has_unknown p c h))
  rule_written spelling scope n c (Print_op y) (Some a) R T r all h k o = absurd r
  rule_written spelling scope n c (Give_op x y) None R T r all h k o = absurd r
  rule_written spelling scope n c (Give_op x y) (Some a) R T r all h k o = give_written R c x y a T r all h
  rule_written spelling scope n c (Take_op x y) None R T r all h k o = absurd r
  rule_written spelling scope n c (Take_op x y) (Some a) R T r all h k o = take_written R c x y a T r all h
  rule_written spelling scope n c (New_lock_op guarded) None R T r all h k o = (tt, lock_written R c guarded T scope r all h k o)
  rule_written spelling scope n c (New_lock_op guarded) (Some a) R T r all h k o = absurd r
  rule_written spelling scope n c (Acquire_op l) None R T r all h k o = absurd r
  rule_written spelling scope n c (Acquire_op l) (Some a) R T r all h k o = acquire_written R c l a T r all h
  rule_written spelling scope n c (Release_op l) None R T r all h k o = absurd r
  rule_written spelling scope n c (Release_op l) (Some a) R T r all h k o =
      (writable p a (all a r.held), written_end p r.rest (Has_atom c Unknown_type) T r.new (written_all_used p (r.guarded ++ Has_atom l Locked_type ∷ []) R r.rest r.used all) (has_unknown p c h))
  rule_written spelling scope n c (Spawn_op g y) None R T r all h k o = absurd r
  rule_written spelling scope n c (Spawn_op g y) (Some a) R T r all h k o =
      (writable p a (all a r.callee.held), written_end p r.rest (Has_atom c Unknown_type) T r.new (written_all_used p (at_args (y ∷ []) (needed r.callee.sig.needs)) R r.rest r.used all) (has_unknown p c h))
  rule_written spelling scope n c (If_op test one two giving) None R T r all h k o = absurd r
  rule_written spelling scope n c (If_op test one two giving) (Some a) R T r all h k o = absurd r
  rule_written spelling scope n c (Match_op block d cases giving) None R T r all h k o = absurd r
  rule_written spelling scope n c (Match_op block d cases giving) (Some a) R T r all h k o = absurd r
