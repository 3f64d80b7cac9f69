-- The first marks, and the last.
use Rattle.std.proofs.lemmas.List.{length-map}
use Rattle.std.proofs.Common.{◌≡◌, ℕ, zero, suc, ◌+◌, ◌≤◌, Bool, true, false, List, [], ◌∷◌, ◌++◌, length, map, take, Option, Some, None, slice_get, refl, sym, ap, ◌∙◌, subst, arith}
use Rattle.mz_tree.specs.Programs.{Con, Variety}
use Rattle.mz_decl.specs.Declarations.{Decls}
use Rattle.mz_decl.proofs.Adopters.{some_is, get_map}
use Rattle.mz_decl.proofs.Limits.{got}
use Rattle.mz_modes.specs.Affine.{Is_mutable}
use Rattle.mz_modes.specs.Marks.{mark_in, mutable_in, mutable_cons_in, AreMutable, AreMutableCons, IsRound, IsClosedBelow, Rounds}
use Rattle.mz_modes.specs.Modes.{AreModes}
use Rattle.mz_modes.proofs.Least.{all_marked}

-- a front with one more item
map_next : {A B : Type 0} (f : A → B) (xs : List A) (i : ℕ) (x : A) → slice_get xs i ≡ Some x → map f (take (suc i) xs) ≡ map f (take i xs) ++ f x ∷ []
map_next f [] i x e = absurd (cc)
map_next f (y ∷ ys) zero x e = ap (λ z. f z ∷ []) (some_is y x e)
map_next f (y ∷ ys) (suc i) x e = ap (λ l. f y ∷ l) (map_next f ys i x e)

-- one more mark
pub mapped_next : {A B : Type 0} (f : A → B) (xs : List A) (i : ℕ) (x : A) (b : B) (marks after : List B) → slice_get xs i ≡ Some x → b ≡ f x → marks ≡ map f (take i xs) → after ≡ marks ++ b ∷ [] → after ≡ map f (take (i + 1) xs)
mapped_next f xs i x b marks after e s m a =
    let next : i + 1 ≡ suc i = omega arith in
    subst (λ n. after ≡ map f (take n xs)) (sym next) (a ∙ ap (λ l. l ++ b ∷ []) m ∙ ap (λ z. map f (take i xs) ++ z ∷ []) s ∙ sym (map_next f xs i x e))

-- a front as long as the list
take_all : {A : Type 0} (xs : List A) (n : ℕ) → length xs ≤ n → take n xs ≡ xs
take_all [] zero h = refl
take_all [] (suc n) h = refl
take_all (x ∷ xs) zero h = absurd (omega arith)
take_all (x ∷ xs) (suc n) h = ap (λ l. x ∷ l) (take_all xs n (omega arith))

-- all marks
pub mapped_all : {A B : Type 0} (f : A → B) (xs : List A) (n : ℕ) (marks : List B) → marks ≡ map f (take n xs) → length xs ≤ n → marks ≡ map f xs
mapped_all f xs n marks m h = m ∙ ap (map f) (take_all xs n h)

is_marked_in : (o : Option Bool) → mark_in o ≡ true → o ≡ Some true
is_marked_in None e = absurd (cc)
is_marked_in (Some b) e = ap Some e

-- a data type is marked just where it is mutable
pub are_mutable : (D : Decls) (marks : List Bool) → marks ≡ mutable_in D.varieties → AreMutable D marks
are_mutable D marks e =
    let f : Variety → Bool = λ v. v.mutable in
    record {
      yes = λ d g. let x = got f D.varieties d true (subst (λ l. slice_get l d ≡ Some true) e g) in record { variety = x.0; declared = x.1; mutable = x.2 };
      all = λ d m. subst (λ l. slice_get l d ≡ Some true) (sym e) (get_map f D.varieties d m.variety m.declared ∙ ap Some m.mutable);
    }

-- a constructor is marked just where its data type is mutable
pub are_mutable_cons : (D : Decls) (marks cons : List Bool) → AreMutable D marks → cons ≡ mutable_cons_in marks D.cons → AreMutableCons D cons
are_mutable_cons D marks cons r e =
    let f : Con → Bool = λ c. mark_in (slice_get marks c.variety) in
    record {
      yes = λ k g. let x = got f D.cons k true (subst (λ l. slice_get l k ≡ Some true) e g) in record { con = x.0; made = x.1; mutable = r.yes x.0.variety (is_marked_in (slice_get marks x.0.variety) x.2) };
      all = λ k m. subst (λ l. slice_get l k ≡ Some true) (sym e) (get_map f D.cons k m.con m.made ∙ ap Some (ap mark_in (r.all m.con.variety m.mutable)));
    }

-- the marks of the mutable data types are those of no round
pub first_round : (D : Decls) (marks : List Bool) → marks ≡ mutable_in D.varieties → IsRound D marks
first_round D marks e =
    let r = are_mutable D marks e in
    record {
      sound = λ d g. Is_mutable d (r.yes d g);
      long = ap length e ∙ length-map D.varieties (λ (v : Variety). v.mutable);
      base = r.all;
    }

-- after a round that adds no mark they are the least set
pub are_modes : (D : Decls) (mutable cons marks after : List Bool) → AreMutable D mutable → AreMutableCons D cons → IsRound D after → Rounds false (length D.cons) D cons marks after → AreModes D (record { affine = after; mutable = mutable; mutable_cons = cons })
are_modes D mutable cons marks after v m r t =
    let closed : IsClosedBelow (length D.cons) D cons after = subst (λ l. IsClosedBelow (length D.cons) D cons l) (sym t.0) t.1 in
    record { affine_yes = r.sound; affine_all = all_marked D cons after r m closed; mutable = v; mutable_cons = m }
