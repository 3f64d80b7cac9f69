-- Forms of lists, brackets and marks, as the grammar has them; and a grammar's parts grouped in another way.
use Rattle.std.proofs.Common.{◌≡◌, ℕ, suc, Bool, true, false, List, [], ◌∷◌, ◌++◌, Option, Some, None, IsTrue, refl, sym, ap, subst, ◌∙◌, ◌||◌, append_assoc, append-nil, inl, inr}
use Rattle.mz_grammar.specs.Reading.{Read, passes, token_at, open_at, choose, bind, done}
use Rattle.mz_grammar.specs.Brackets.{Opens}
use Rattle.mz_grammar.specs.Relations.{OneToken, Nothing, Then, Either, Image, Maybe, Many}
use Rattle.mz_grammar.specs.Readers.{Any, Reads}
use Rattle.mz_grammar.proofs.Readers.{Starts, Apart, token_starts, then_starts, either_starts, reads_token}
use Rattle.mz_grammar.proofs.ManyReaders.{Ends}
use Rattle.mz_grammar.proofs.Parts.{then_any, then_many, done_or, bracketed}
use Rattle.mz_grammar.proofs.Layers.{Lifts, lifts_const, lifts_then, lifts_either, lifts_image, lifts_many}
use Rattle.mz_token.specs.declared.token.Kind.{Kind}
use Rattle.mz_token.specs.declared.token.Kind.TheVariants as kind
use Rattle.mz_token.specs.declared.token.Token.{Token}
use Rattle.mz_types.specs.Words.{Spelling, mark, turn, turn_of, Mark}
use Rattle.mz_types.proofs.Singles.{mark_has, sample, Moves}
use Rattle.mz_parse.specs.Grammar.{multiplying, adding, comparing, Separated, MaybeSeparated, MaybeBehind, Such}
use Rattle.mz_parse.specs.BodyReading.{next_at, separated_at}

-- ---- tokens of two sorts

-- what holds of each sort holds of both: by cases
pub or_has : (f g : Token → Bool) (Q : Token → Type 0) → ((t : Token) → IsTrue (f t) → Q t) → ((t : Token) → IsTrue (g t) → Q t) → (t : Token) → IsTrue (f t || g t) → Q t
or_has f g Q one two t e = go (f t) refl e
  where
    go : (b : Bool) → f t ≡ b → IsTrue (b || g t) → Q t
    go true h e = one t h
    go false h e = two t e

-- what holds of such a token holds of the next: by cases
pub next_has : (test : Token → Bool) (F : Option Token → Type 0) → ((t : Token) → IsTrue (test t) → F (Some t)) → (o : Option Token) → passes test o ≡ true → F o
next_has test F h None e = cc
next_has test F h (Some t) e = h t e

pub multiplying_has : (P : Kind → Type 0) → P (kind.Mark 9) → P (kind.Mark 12) → P (kind.Mark 13) → (t : Token) → IsTrue (multiplying t) → P t.kind
multiplying_has P times over rest =
    or_has (mark 9) (λ t. mark 12 t || mark 13 t) (λ t. P t.kind) (mark_has 9 P times) (or_has (mark 12) (mark 13) (λ t. P t.kind) (mark_has 12 P over) (mark_has 13 P rest))

pub adding_has : (P : Kind → Type 0) → P (kind.Mark 10) → P (kind.Mark 11) → (t : Token) → IsTrue (adding t) → P t.kind
adding_has P plus minus = or_has (mark 10) (mark 11) (λ t. P t.kind) (mark_has 10 P plus) (mark_has 11 P minus)

pub comparing_has : (P : Kind → Type 0) → P (kind.Mark 16) → P (kind.Mark 17) → P (kind.Mark 18) → P (kind.Mark 19) → P (kind.Mark 20) → P (kind.Mark 21) → (t : Token) → IsTrue (comparing t) → P t.kind
comparing_has P equal other less most more least =
    or_has (mark 16) (λ t. mark 17 t || (mark 18 t || (mark 19 t || (mark 20 t || mark 21 t)))) (λ t. P t.kind) (mark_has 16 P equal)
    (or_has (mark 17) (λ t. mark 18 t || (mark 19 t || (mark 20 t || mark 21 t))) (λ t. P t.kind) (mark_has 17 P other)
    (or_has (mark 18) (λ t. mark 19 t || (mark 20 t || mark 21 t)) (λ t. P t.kind) (mark_has 18 P less)
    (or_has (mark 19) (λ t. mark 20 t || mark 21 t) (λ t. P t.kind) (mark_has 19 P most)
    (or_has (mark 20) (mark 21) (λ t. P t.kind) (mark_has 20 P more) (mark_has 21 P least)))))

-- one such token is read, since there is one
pub multiplying_reads : (d : ℕ) → Reads turn (token_at multiplying) (OneToken multiplying) Any d d
unfolding sample
multiplying_reads d = reads_token multiplying d d (sample (kind.Mark 9)) refl (multiplying_has (λ k. Moves k d d) refl refl refl)

pub adding_reads : (d : ℕ) → Reads turn (token_at adding) (OneToken adding) Any d d
unfolding sample
adding_reads d = reads_token adding d d (sample (kind.Mark 10)) refl (adding_has (λ k. Moves k d d) refl refl)

pub comparing_token_reads : (d : ℕ) → Reads turn (token_at comparing) (OneToken comparing) Any d d
unfolding sample
comparing_token_reads d = reads_token comparing d d (sample (kind.Mark 16)) refl (comparing_has (λ k. Moves k d d) refl refl refl refl refl refl)

-- ---- lists

-- one and others, each of these behind a separator
pub separated_reads : {A : Type 0} {p : List Token → Read Token A} {U : Spelling A} {F : Option Token → Type 0} {d : ℕ} (sep : Token → Bool) →
    Reads turn p U F d d → Reads turn (token_at sep) (OneToken sep) Any d d → ((o : Option Token) → passes sep o ≡ true → F o) → Reads turn (separated_at sep p) (Separated sep U) (Ends sep F) d d
unfolding separated_at next_at
separated_reads {A} {p} {U} {F} {d} sep P S goes = then_many sep (λ one others. one ∷ others) P (then_any S (λ separator. P)) (then_starts (OneToken sep) (λ separator. U) (token_starts sep)) goes

-- .. or nothing, before a closing token
pub maybe_separated_reads : {A : Type 0} {p : List Token → Read Token A} {U : Spelling A} {F : Option Token → Type 0} {d : ℕ} (close sep begins : Token → Bool) →
    Reads turn p U F d d → Starts U begins → Reads turn (token_at sep) (OneToken sep) Any d d → Apart close begins → ((o : Option Token) → passes sep o ≡ true → F o) →
    ((o : Option Token) → passes close o ≡ true → Ends sep F o) → Reads turn (choose close (done []) (separated_at sep p)) (MaybeSeparated sep U) (λ o. passes close o ≡ true) d d
maybe_separated_reads {A} {p} {U} {F} {d} close sep begins P starts S apart goes closes =
    done_or close begins [] (separated_reads sep P S goes) (then_starts U (λ one. Image (λ others. one ∷ others) (Many (Then (OneToken sep) (λ separator. U)))) starts) apart closes

-- perhaps one and then a part: it begins as the one or as the part
maybe_then : {A B : Type 0} {U : Spelling A} (V : Option A → Spelling B) (ts : List Token) (b : B) → Then (Maybe U) V ts b → Either (Then U (λ a. V (Some a))) (V None) ts b
maybe_then V ts b (None, x, y, e, none, v) = inr (subst (λ (l : List Token). V None l b) (sym (e ∙ ap (λ l. l ++ y) none)) v)
maybe_then V ts b (Some a, x, y, e, u, v) = inl (a, x, y, e, u, v)

pub maybe_then_starts : {A B : Type 0} {U : Spelling A} {V : Option A → Spelling B} {f g : Token → Bool} → Starts U f → ((o : Option A) → Starts (V o) g) → Starts (Then (Maybe U) V) (λ t. f t || g t)
maybe_then_starts {A} {B} {U} {V} {f} {g} one other front rest b h = either_starts (then_starts U (λ a. V (Some a)) one) (other None) front rest b (maybe_then V front b h)

-- perhaps items behind a mark, and then a part: likewise
behind_then : {A B : Type 0} (before : Token → Bool) (Items : Spelling (List A)) (V : List A → Spelling B) (ts : List Token) (b : B) → Then (MaybeBehind before Items) V ts b →
    Either (Then (Then (OneToken before) (λ word. Items)) V) (V []) ts b
behind_then before Items V ts b (vs, x, y, e, inl items, v) = inl (vs, x, y, e, items, v)
behind_then before Items V ts b (vs, x, y, e, inr (none, same), v) =
    inr (subst (λ (l : List Token). V [] l b) (sym (e ∙ ap (λ l. l ++ y) none)) (subst (λ us. V us y b) same v))

pub maybe_behind_starts : {A B : Type 0} {g : Token → Bool} (before : Token → Bool) (Items : Spelling (List A)) (V : List A → Spelling B) → Starts (V []) g → Starts (Then (MaybeBehind before Items) V) (λ t. before t || g t)
maybe_behind_starts {A} {B} {g} before Items V last front rest b h =
    either_starts (then_starts (Then (OneToken before) (λ word. Items)) V (then_starts (OneToken before) (λ word. Items) (token_starts before))) last front rest b (behind_then before Items V front b h)

-- ---- brackets

-- a brace and what stands behind it, where the brace may be opened
pub in_braces : {B : Type 0} {k : Token → List Token → Read Token B} {V : Token → Spelling B} {G : Option Token → Type 0} → ((t : Token) → (front : List Token) × (b : B) × V t front b) →
    (d : ℕ) → ((e : ℕ) → d ≡ suc e → (t : Token) → Reads turn (k t) (V t) G e d) → Reads turn (bind (open_at (mark 0) d) k) (Then (Mark 0) V) G d d
unfolding sample
in_braces {B} {k} {V} {G} example d K = bracketed {k = k} {V = V} {G = G} (mark 0) (mark_has 0 (λ k. turn_of k ≡ Opens) refl) (sample (kind.Mark 0)) refl example d K

-- likewise a round bracket
pub in_parens : {B : Type 0} {k : Token → List Token → Read Token B} {V : Token → Spelling B} {G : Option Token → Type 0} → ((t : Token) → (front : List Token) × (b : B) × V t front b) →
    (d : ℕ) → ((e : ℕ) → d ≡ suc e → (t : Token) → Reads turn (k t) (V t) G e d) → Reads turn (bind (open_at (mark 2) d) k) (Then (Mark 2) V) G d d
unfolding sample
in_parens {B} {k} {V} {G} example d K = bracketed {k = k} {V = V} {G = G} (mark 2) (mark_has 2 (λ k. turn_of k ≡ Opens) refl) (sample (kind.Mark 2)) refl example d K

-- ---- parts grouped in another way

-- three parts, the first two together or the last two: the tokens are put together alike
pub then_out : {A B C : Type 0} {P : Spelling A} {Q : A → Spelling B} (R : B → Spelling C) (ts : List Token) (c : C) → Then (Then P Q) R ts c → Then P (λ a. Then (Q a) R) ts c
then_out R ts c (b, z, y, e, (a, x, w, f, p, q), r) = (a, x, w ++ y, e ∙ ap (λ l. l ++ y) f ∙ append_assoc x w y, p, (b, w, y, refl, q, r))

pub then_in : {A B C : Type 0} {P : Spelling A} {Q : A → Spelling B} (R : B → Spelling C) (ts : List Token) (c : C) → Then P (λ a. Then (Q a) R) ts c → Then (Then P Q) R ts c
then_in R ts c (a, x, z, e, p, (b, w, y, f, q, r)) = (b, x ++ w, y, e ∙ ap (λ l. x ++ l) f ∙ sym (append_assoc x w y), (a, x, w, refl, p, q), r)

-- another first part that has as much
pub then_first : {A B : Type 0} {P Q : Spelling A} (R : A → Spelling B) → ((ts : List Token) (a : A) → P ts a → Q ts a) → (ts : List Token) (b : B) → Then P R ts b → Then Q R ts b
then_first R f ts b (a, x, y, e, p, r) = (a, x, y, e, f x a p, r)

-- one part and then one of two, or one of two that begin with the part
pub then_each : {A B : Type 0} {P : Spelling A} (Q R : A → Spelling B) (ts : List Token) (b : B) → Then P (λ a. Either (Q a) (R a)) ts b → Either (Then P Q) (Then P R) ts b
then_each Q R ts b (a, x, y, e, p, inl q) = inl (a, x, y, e, p, q)
then_each Q R ts b (a, x, y, e, p, inr r) = inr (a, x, y, e, p, r)

pub then_either : {A B : Type 0} {P : Spelling A} (Q R : A → Spelling B) (ts : List Token) (b : B) → Either (Then P Q) (Then P R) ts b → Then P (λ a. Either (Q a) (R a)) ts b
then_either Q R ts b (inl (a, x, y, e, p, q)) = (a, x, y, e, p, inl q)
then_either Q R ts b (inr (a, x, y, e, p, r)) = (a, x, y, e, p, inr r)

-- a part and then nothing, or the part alone
pub then_nothing : {A B : Type 0} {P : Spelling A} (f : A → B) (ts : List Token) (b : B) → Then P (λ a. Nothing (f a)) ts b → Image f P ts b
then_nothing {A} {B} {P} f ts b (a, x, y, e, p, (none, same)) = (a, subst (λ (l : List Token). P l a) (sym (e ∙ ap (λ l. x ++ l) none ∙ append-nil x)) p, same)

pub nothing_then : {A B : Type 0} {P : Spelling A} (f : A → B) (ts : List Token) (b : B) → Image f P ts b → Then P (λ a. Nothing (f a)) ts b
nothing_then f ts b (a, p, same) = (a, ts, [], sym (append-nil ts), p, (refl, same))

-- ---- layers

-- those for which something holds lift as all do
pub lifts_such : {E A : Type 0} {R : (List Token → E → Type 0) → List Token → A → Type 0} (holds : A → Bool) → Lifts R → Lifts (λ X. Such holds (R X))
lifts_such {E} {A} {R} holds P = record {
  mono = λ X Y f ts a h. (P.mono X Y f ts a h.0, h.1);
  bound = λ N up ts a h. let it = P.bound N up ts a h.0 in (it.0, (it.1, h.1));
}

-- a list lifts as its items do
pub lifts_separated : {E A : Type 0} {R : (List Token → E → Type 0) → List Token → A → Type 0} (sep : Token → Bool) → Lifts R → Lifts (λ X. Separated sep (R X))
lifts_separated sep P = lifts_then P (λ one. lifts_image (λ others. one ∷ others) (lifts_many (lifts_then (lifts_const (OneToken sep)) (λ separator. P))))

pub lifts_maybe_separated : {E A : Type 0} {R : (List Token → E → Type 0) → List Token → A → Type 0} (sep : Token → Bool) → Lifts R → Lifts (λ X. MaybeSeparated sep (R X))
lifts_maybe_separated sep P = lifts_either (lifts_const (Nothing [])) (lifts_separated sep P)
