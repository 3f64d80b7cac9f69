-- Functions that are declared without a fault.
use Rattle.std.proofs.Common.{◌≡◌, ℕ, ◌<◌, ◌≤◌, true, List, [], ◌++◌, map, length, Option, Some, None, refl, sym, ap, subst, ◌∙◌, arith}
use Rattle.std.proofs.lemmas.List.{length-map}
use Rattle.std.specs.Prelude.{option_map, option_and_then, unwrap_or, slice_get}
use Rattle.mz_tree.specs.Programs.{Sig, Fun, Program}
use Rattle.mz_scope.specs.Syntax.{Word, FunTree}
use Rattle.mz_scope.specs.Names.{find, numbered, Globals, TypeEntry, TypeName, Data_name, Sig_name, sig_of, FunEntry, sig_number}
use Rattle.mz_scope.specs.Making.{CoreName, Made}
use Rattle.mz_scope.specs.Bodies.{flat_block}
use Rattle.mz_scope.specs.Declarations.{FunctionBody, with_params, too_many, params_by_name, function}
use Rattle.mz_tree.specs.Scoped.{IsFun, adopting_body}
use Rattle.mz_scoped.proofs.Proper.{IsProperFun}
use Rattle.mz_scoped.proofs.Grounds.{Grounds}
use Rattle.mz_scoped.proofs.Goes.{Goes, first_then, first_and, weakened, framed, given, not_so, is_declared}
use Rattle.mz_scoped.proofs.InOrder.{few_places, same_place}
use Rattle.mz_scoped.proofs.TopLists.{Stands, stands}
use Rattle.mz_scoped.proofs.FirstNames.{IsNew, declares_goes}
use Rattle.mz_scoped.proofs.AddedPairs.{HasPairs, paired_behind}
use Rattle.mz_scoped.proofs.ScopedBodies.{IsScopedBody, body_goes}

-- the number that a function's name stands for
abbrev pub fun_first : Globals → List ℕ → Option ℕ
fun_first g name = option_map (λ (one : FunEntry). one.number) (find g.funs name)

-- there are no more core names than may be
past_goes : {P : Made → Type 0} (past : Option CoreName) → Goes P (too_many past) (λ _ m. (past ≡ None) × P m)
past_goes None = given tt (λ m p. (refl, p))
past_goes (Some past) = weakened (λ m p. p) (λ _ m q. cc) (not_so true _ past.place)

-- a name of a signature stands for one
sig_name : (t : TypeName) (s : ℕ) → sig_of t ≡ Some s → t ≡ Sig_name s
sig_name (Data_name number) s is = cc
sig_name (Sig_name number) s is =
    let same : number ≡ s = cc in
    ap Sig_name same

module _ (p : Program) (g : Globals) where
  -- each signature counts its parameters
  abbrev pub Counts : Type 0
  Counts = map (λ (s : Sig). s.count) p.sigs ≡ map length g.params

  module _ (grounds : Grounds p g) where
    -- a number that is found is that of a signature of the program
    sig_found : (name : List ℕ) (found : Option TypeEntry) (s : ℕ) → find g.types name ≡ found → option_and_then (λ (t : TypeEntry). sig_of t.stands_for) found ≡ Some s → s < length p.sigs
    sig_found name None s here is = cc
    sig_found name (Some t) s here is = grounds.sigs name t s here (sig_name t.stands_for s is)

    -- the signature of this number has as many parameters as are read by its name
    record Signed (name : List ℕ) (s : ℕ) : Type 0 where
      sig : Sig
      signed : slice_get p.sigs s ≡ Some sig
      count : length (params_by_name g name) ≡ sig.count

    -- a name of a signature that is found
    signed_is : Counts → (name : List ℕ) (s : ℕ) → sig_number g.types name ≡ Some s → Signed name s
    signed_is counts name s is =
        let one : Stands p.sigs s = stands p.sigs s (sig_found name (find g.types name) s refl is) in
        let params : (b : List Word) × (slice_get g.params s ≡ Some b) × (one.member.count ≡ length b) = same_place (λ (s : Sig). s.count) length p.sigs g.params counts s one.member one.there in
        let read : params_by_name g name ≡ params.0 = ap (λ o. unwrap_or (option_and_then (slice_get g.params) o) []) is ∙ ap (λ o. unwrap_or o []) params.1 in
        record { sig = one.member; signed = one.there; count = ap length read ∙ sym params.2 }

    -- function f
    pub record FunDone (f : ℕ) (x : FunTree) (fun : Fun) : Type 0 where
      pub is : Counts → IsFun p fun
      pub new : IsNew (fun_first g x.name.text) f 1000
      pub name : fun.name ≡ x.name.text

    -- its parts make a function
    fun_is : (x : FunTree) → IsProperFun x → (s : ℕ) (made : FunctionBody) → sig_number g.types x.sig.text ≡ Some s → IsScopedBody p (length (params_by_name g x.sig.text)) made → slice_get made.names 256 ≡ None → Counts
        → IsFun p (record { name = x.name.text; sig = s; body = made.body; spelling = map (λ (n : CoreName). n.spelling) made.names })
    fun_is x proper s made is body past counts =
        let signed : Signed x.sig.text s = signed_is counts x.sig.text s is in
        let whole : IsScopedBody p signed.sig.count made = subst (λ count. IsScopedBody p count made) signed.count body in
        let spelling : List (List ℕ) = map (λ (n : CoreName). n.spelling) made.names in
        let few : length made.names ≤ 256 = few_places made.names 256 past in
        let long : length spelling ≡ length made.names = length-map made.names (λ (n : CoreName). n.spelling) in
        record {
          name = proper.0;
          sig = signed.sig;
          signed = signed.signed;
          body = whole.body;
          spelled = long ∙ whole.spelled;
          few = omega (arith, few, long);
        }

    -- a function without a fault
    pub fun_goes : (f : ℕ) (x : FunTree) → IsProperFun x → (some : List (ℕ × ℕ)) → Goes (HasPairs some) (function g f x) (λ fun m. FunDone f x fun × HasPairs (some ++ adopting_body fun.body) m)
    fun_goes f x proper some =
        let new : Type 0 = IsNew (fun_first g x.name.text) f 1000 in
        let params : List Word = params_by_name g x.sig.text in
        first_and _ _ (declares_goes (fun_first g x.name.text) f 1000 x.name)
        (first_then _ _ (is_declared 0 (sig_number g.types x.sig.text) x.sig.place)
        (λ s. first_then _ _ (framed (sig_number g.types x.sig.text ≡ Some s) (framed new (paired_behind (with_params params (flat_block g (numbered 0 params) x.block)) some (body_goes p g grounds params x.block proper.1))))
        (λ made. first_and _ _ (past_goes (slice_get made.names 256))
        (given (record { name = x.name.text; sig = s; body = made.body; spelling = map (λ (n : CoreName). n.spelling) made.names }) (λ m q. (
          record { is = fun_is x proper s made q.1.0 q.1.1.1.0 q.0; new = q.1.1.0; name = refl },
          q.1.1.1.1,
        ))))))
