-- What was held at a data type before the branches, one permission after the other.
use Rattle.std.proofs.Common.{◌≡◌, ◌⊎◌, ◌≤◌, inl, inr, ℕ, ◌+◌, Bool, true, false, List, [], ◌∷◌, ◌++◌, length, drop, Some, slice_get, refl, sym, ap, ◌∙◌, subst, append-nil, append_assoc}
use Rattle.std.proofs.lemmas.List.{drop_all}
use Rattle.mz_tree.specs.Plain.{Atom, Has_atom, Same_atom}
use Rattle.mz_tree.specs.Saying.{Says}
use Rattle.mz_tree.specs.View.{plain_atom, plain_atoms}
use Rattle.mz_tree.specs.declared.types.Atom.{Atom as CodeAtom}
use Rattle.mz_decl.specs.Declarations.{Decls}
use Rattle.mz_perm.proofs.Remaining.{drop_at}
use Rattle.mz_elab.specs.Joins.{End, HasData, Restores}
use Rattle.mz_elab.specs.Joining.{plain_ends, EachWrites, IsOf, RestoresOne, RestoresAll}
use Rattle.mz_elab.specs.declared.ends.End.{End as CodeEnd}
use Rattle.mz_elab.proofs.AllGiving.{plain_left}
use Rattle.mz_elab.proofs.EachWritten.{each_none, each_then}

-- ---- whether the join has a name at a data type

module _ (D : Decls) (x d : ℕ) where
  of_first : (a : Atom ℕ) (l : List (Atom ℕ)) → HasData D x d (a ∷ l) → IsOf D x d a ⊎ HasData D x d l
  of_first a l h = elim h.1 [ inl e ↦ inl (subst (IsOf D x d) e (refl, h.2)) | inr i ↦ inr (h.0, i, h.2) ]

  pub has_here : (a : Atom ℕ) (l : List (Atom ℕ)) → IsOf D x d a → HasData D x d (a ∷ l)
  has_here (Has_atom y t) l o = (t, inl (ap (λ z. Has_atom z t) (sym o.0)), o.1)
  has_here (Same_atom y z) l o = absurd o

  has_later : (a : Atom ℕ) (l : List (Atom ℕ)) → HasData D x d l → HasData D x d (a ∷ l)
  has_later a l h = (h.0, inr h.1, h.2)

  -- the first i have none: it is left to the others
  pub record NotYet (join : List CodeAtom) (i : ℕ) : Type 0 where
    pub onward : HasData D x d (plain_atoms join) → HasData D x d (plain_atoms (drop i join))
    pub back : HasData D x d (plain_atoms (drop i join)) → HasData D x d (plain_atoms join)

  pub not_yet : (join : List CodeAtom) → NotYet join 0
  not_yet join = record { onward = λ h. h; back = λ h. h }

  pub not_next : (join : List CodeAtom) (i : ℕ) (a : CodeAtom) (b : Bool) → NotYet join i → slice_get join i ≡ Some a → b ≡ false → Says b (IsOf D x d (plain_atom a)) → NotYet join (i + 1)
  not_next join i a true n is e s = absurd (cc)
  not_next join i a false n is e s = record {
    onward = λ h. elim (of_first (plain_atom a) (plain_atoms (drop (i + 1) join)) (subst (HasData D x d) (plain_left join i a is) (n.onward h))) [ inl o ↦ absurd (s o) | inr r ↦ r ];
    back = λ h. n.back (subst (HasData D x d) (sym (plain_left join i a is)) (has_later (plain_atom a) (plain_atoms (drop (i + 1) join)) h));
  }

  pub yes_here : (join : List CodeAtom) (i : ℕ) (a : CodeAtom) (b : Bool) → NotYet join i → slice_get join i ≡ Some a → b ≡ true → Says b (IsOf D x d (plain_atom a)) → HasData D x d (plain_atoms join)
  yes_here join i a false n is e s = absurd (cc)
  yes_here join i a true n is e s = n.back (subst (HasData D x d) (sym (plain_left join i a is)) (has_here (plain_atom a) (plain_atoms (drop (i + 1) join)) s))

  pub none_at_all : (join : List CodeAtom) (i : ℕ) → NotYet join i → length join ≤ i → HasData D x d (plain_atoms join) → ⊥
  none_at_all join i n h has = nothing (subst (λ l. HasData D x d (plain_atoms l)) (drop_all i join h) (n.onward has))
    where
      nothing : HasData D x d [] → ⊥
      nothing h = h.1

-- ---- the loop

module _ (D : Decls) (K : ℕ → Type 0) (c : ℕ) (before : List (Atom ℕ)) (start : List (Atom ℕ)) (old : List CodeEnd) where
  -- the first i are looked at: what is said of the others is said of all
  pub record PutBack (i : ℕ) (now : List CodeEnd) (join : List (Atom ℕ)) : Type 0 where
    pub restores : (after : List End) (all : List (Atom ℕ)) → Restores D c (drop i before) join (plain_ends now) after all → Restores D c before start (plain_ends old) after all
    pub more : List (Atom ℕ)
    pub is : join ≡ start ++ more
    pub written : EachWrites D K c more old now

  pub back_start : PutBack 0 old start
  back_start = record { restores = λ after all r. r; more = []; is = sym (append-nil start); written = each_none D K c old }

  pub back_next : (i : ℕ) (a : Atom ℕ) (now next : List CodeEnd) (join all : List (Atom ℕ)) → PutBack i now join → slice_get before i ≡ Some a → RestoresOne D K c join a now next all → PutBack (i + 1) next all
  back_next i a now next join all p is (inl o) = record {
    restores = λ after whole r. p.restores after whole (subst (λ l. Restores D c l join (plain_ends now) after whole) (sym (drop_at before i a is)) (inl (plain_ends next, o.restored, subst (λ j. Restores D c (drop (i + 1) before) j (plain_ends next) after whole) o.more r)));
    more = p.more ++ a ∷ [];
    is = o.more ∙ ap (λ l. l ++ a ∷ []) p.is ∙ append_assoc start p.more (a ∷ []);
    written = each_then D K c p.more (a ∷ []) old now next p.written o.written;
  }
  back_next i a now next join all p is (inr o) = record {
    restores = λ after whole r. p.restores after whole (subst (λ l. Restores D c l join (plain_ends now) after whole) (sym (drop_at before i a is)) (inr (o.not, subst (λ j. Restores D c (drop (i + 1) before) j (plain_ends now) after whole) o.join_same (subst (λ e. Restores D c (drop (i + 1) before) all (plain_ends e) after whole) o.same r))));
    more = p.more;
    is = o.join_same ∙ p.is;
    written = subst (λ e. EachWrites D K c p.more old e) (sym o.same) p.written;
  }

  pub back_end : (i : ℕ) (now : List CodeEnd) (join : List (Atom ℕ)) → PutBack i now join → length before ≤ i → RestoresAll D K c before start old now join
  back_end i now join p h = record {
    restores = p.restores (plain_ends now) join (subst (λ l. Restores D c l join (plain_ends now) (plain_ends now) join) (sym (drop_all i before h)) (refl, refl));
    more = p.more;
    is = p.is;
    written = p.written;
  }
