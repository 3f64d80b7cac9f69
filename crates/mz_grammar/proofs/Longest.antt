-- What can't go on is read, whatever comes behind it. A reader that is promised only before some next tokens may refuse what is
-- spelled before others; where the grammar itself couldn't go on with the next token, it mustn't. p, q and k are readers, U and V
-- what the grammar has, as in Readers.
use Rattle.std.proofs.Common.{◌≡◌, ℕ, zero, suc, Bool, true, false, List, [], ◌∷◌, ◌++◌, Option, Some, None, Ok, Err, IsTrue, refl, sym, ap, subst, ◌∙◌, append_assoc, append-nil, inl, inr, if◌then◌else◌}
use Rattle.mz_grammar.specs.Reading.{Read, Deep, Wrong, ◌>>=◌, first, passes, bind, done, choose, open_at, maybe_at, many}
use Rattle.mz_grammar.specs.Brackets.{Turn}
use Rattle.mz_grammar.specs.Relations.{OneToken, Then, Either, Image, Maybe, Many}
use Rattle.mz_grammar.specs.Readers.{Any, Allowed, Reads}
use Rattle.mz_grammar.specs.Wholes.{EndsAt}
use Rattle.mz_grammar.proofs.Readers.{Starts, Apart, apart_at, allowed_at, bind_allowed, choose_yes, choose_no, token_never, which}
use Rattle.mz_grammar.proofs.ManyReaders.{many_none, many_some}

module _ {T : Type 0} where
  -- what is spelled is read, or too deep, where nothing of the grammar goes on with the next token
  pub record Longest {A : Type 0} (p : List T → Read T A) (U : List T → A → Type 0) : Type 0 where
    pub reads : (front rest : List T) (value : A) → U front value → EndsAt U front rest → Allowed (p (front ++ rest)) (value, rest)

  -- .. or where the next token may follow
  pub record Never {A : Type 0} (p : List T → Read T A) (U : List T → A → Type 0) (F : Option T → Type 0) : Type 0 where
    pub reads : (front rest : List T) (value : A) → U front value → F (first rest) → Allowed (p (front ++ rest)) (value, rest)

  -- each such token begins something of the grammar
  abbrev pub Opens : {A : Type 0} → (List T → A → Type 0) → (T → Bool) → Type 0
  Opens {A} U test = (t : T) → IsTrue (test t) → (more : List T) × (value : A) × U (t ∷ more) value

  -- where all that goes on from y goes on from x, what ends at x ends at y: by the next token
  pub ends_in : {A B : Type 0} (U : List T → A → Type 0) (V : List T → B → Type 0) (x y : List T) → ((more : List T) (b : B) → V (y ++ more) b → (a : A) × U (x ++ more) a) → (rest : List T) → EndsAt U x rest → EndsAt V y rest
  ends_in U V x y to [] ends = tt
  ends_in U V x y to (t ∷ rest) ends = λ (more, b, v).
      let it = to (t ∷ more) b (subst (λ (l : List T). V l b) (append_assoc y (t ∷ []) more) v) in
      ends (more, it.0, subst (λ (l : List T). U l it.0) (sym (append_assoc x (t ∷ []) more)) it.1)

  -- no token that begins something comes where nothing goes on
  none_opens : {A : Type 0} (U : List T → A → Type 0) (test : T → Bool) → Opens U test → (rest : List T) → EndsAt U [] rest → passes test (first rest) ≡ false
  none_opens U test opens [] ends = refl
  none_opens U test opens (t ∷ rest) ends = go (test t) refl
    where
      go : (b : Bool) → test t ≡ b → b ≡ false
      go true is = absurd (ends (opens t is))
      go false is = refl

  -- an opening bracket is read or too deep, whatever follows: by whether one may be opened
  pub open_never : (test : T → Bool) (d : ℕ) → Never (open_at test d) (OneToken test) Any
  open_never test zero = record { reads = λ front rest t (one, is) f. inr (front ++ rest, ap (λ l. open_at test zero (l ++ rest)) one ∙ ap (λ b. if b then Err (Deep (t ∷ rest)) else Err (Wrong (t ∷ rest))) is ∙ ap (λ l. Err (Deep (l ++ rest))) (sym one)) }
  open_never test (suc d) = record { reads = λ front rest t it f. token_never test front rest t it }

  -- one part after another, where the first is read before what comes second
  pub then_longest : {A B : Type 0} (p : List T → Read T A) {k : A → List T → Read T B} {U : List T → A → Type 0} {V : A → List T → B → Type 0} →
      ((a : A) (x y rest : List T) (b : B) → U x a → V a y b → EndsAt (Then U V) (x ++ y) rest → Allowed (p (x ++ (y ++ rest))) (a, y ++ rest)) → ((a : A) → Longest (k a) (V a)) → Longest (bind p k) (Then U V)
  then_longest {A} {B} p {k} {U} {V} one two = record {
    reads = λ front rest b (a, x, y, e, u, v) ends.
        let here : EndsAt (Then U V) (x ++ y) rest = subst (λ (l : List T). EndsAt (Then U V) l rest) e ends in
        let last : EndsAt (V a) y rest = ends_in (Then U V) (V a) (x ++ y) y (λ more c w. (c, (a, x, y ++ more, append_assoc x y more, u, w))) rest here in
        allowed_at (bind p k (front ++ rest)) (bind p k (x ++ (y ++ rest))) (b, rest) (ap (bind p k) (ap (λ l. l ++ rest) e ∙ append_assoc x y rest))
        (bind_allowed (p (x ++ (y ++ rest))) (λ x. k x.0 x.1) (a, y ++ rest) (b, rest) (one a x y rest b u v here) ((two a).reads y rest b v last));
  }

  -- a part that anything may follow, and then another
  pub any_longest : {A B : Type 0} {p : List T → Read T A} {k : A → List T → Read T B} {U : List T → A → Type 0} {V : A → List T → B → Type 0} →
      Never p U Any → ((a : A) → Longest (k a) (V a)) → Longest (bind p k) (Then U V)
  any_longest {A} {B} {p} P = then_longest p (λ a x y rest b u v ends. P.reads x (y ++ rest) a u tt)

  -- a part, and what surely begins with a token that may follow it
  pub sure_longest : {A B : Type 0} {p : List T → Read T A} {k : A → List T → Read T B} {U : List T → A → Type 0} {V : A → List T → B → Type 0} {F : Option T → Type 0} (test : T → Bool) →
      Never p U F → ((a : A) → Starts (V a) test) → ((o : Option T) → passes test o ≡ true → F o) → ((a : A) → Longest (k a) (V a)) → Longest (bind p k) (Then U V)
  sure_longest {A} {B} {p} test P starts goes = then_longest p (λ a x y rest b u v ends. P.reads x (y ++ rest) a u (goes (first (y ++ rest)) (starts a y rest b v)))

  -- the same tokens, for a value made of theirs
  pub mapped_longest : {A B : Type 0} {p : List T → Read T A} {U : List T → A → Type 0} (f : A → B) → Longest p U → Longest (bind p (λ a. done (f a))) (Image f U)
  mapped_longest {A} {B} {p} {U} f P = record {
    reads = λ front rest b (a, u, same) ends.
        bind_allowed (p (front ++ rest)) (λ x. done (f x.0) x.1) (a, rest) (b, rest)
        (P.reads front rest a u (ends_in (Image f U) U front front (λ more c w. (f c, (c, w, refl))) rest ends)) (inl (ap (λ c. Ok (c, rest)) (sym same)));
  }

  -- perhaps one: none is read where none begins, and one begins where more could follow nothing
  pub maybe_longest : {A : Type 0} {p : List T → Read T A} {U : List T → A → Type 0} (test : T → Bool) → Starts U test → Opens U test → Longest p U → Longest (maybe_at test p) (Maybe U)
  maybe_longest {A} {p} {U} test starts opens P = record { reads = go }
    where
      go : (front rest : List T) (value : Option A) → Maybe U front value → EndsAt (Maybe U) front rest → Allowed (maybe_at test p (front ++ rest)) (value, rest)
      go front rest None none ends =
          let bare : EndsAt (Maybe U) [] rest = subst (λ (l : List T). EndsAt (Maybe U) l rest) none ends in
          let not : passes test (first rest) ≡ false = none_opens (Maybe U) test (λ t is. let it = opens t is in (it.0, Some it.1, it.2)) rest bare in
          inl (ap (λ l. maybe_at test p (l ++ rest)) none ∙ choose_no test (λ others. p others >>= λ x. Ok (Some x.0, x.1)) (λ others. Ok (None, others)) rest not)
      go front rest (Some a) u ends =
          allowed_at (maybe_at test p (front ++ rest)) (p (front ++ rest) >>= λ x. Ok (Some x.0, x.1)) (Some a, rest)
          (choose_yes test (λ others. p others >>= λ x. Ok (Some x.0, x.1)) (λ others. Ok (None, others)) (front ++ rest) (starts front rest a u))
          (bind_allowed (p (front ++ rest)) (λ x. Ok (Some x.0, x.1)) (a, rest) (Some a, rest) (P.reads front rest a u (ends_in (Maybe U) U front front (λ more c w. (Some c, w)) rest ends)) (inl refl))

  -- one of two that begin apart
  pub either_longest : {A : Type 0} {p q : List T → Read T A} {U V : List T → A → Type 0} (test other : T → Bool) → Longest p U → Longest q V → Starts U test → Starts V other → Apart test other → Longest (choose test p q) (Either U V)
  either_longest {A} {p} {q} {U} {V} test other P Q s z apart = record { reads = go }
    where
      go : (front rest : List T) (a : A) → Either U V front a → EndsAt (Either U V) front rest → Allowed (choose test p q (front ++ rest)) (a, rest)
      go front rest a (inl u) ends =
          allowed_at (choose test p q (front ++ rest)) (p (front ++ rest)) (a, rest) (choose_yes test p q (front ++ rest) (s front rest a u)) (P.reads front rest a u (ends_in (Either U V) U front front (λ more c w. (c, inl w)) rest ends))
      go front rest a (inr v) ends =
          allowed_at (choose test p q (front ++ rest)) (q (front ++ rest)) (a, rest) (choose_no test p q (front ++ rest) (apart_at test other apart (first (front ++ rest)) (z front rest a v))) (Q.reads front rest a v (ends_in (Either U V) V front front (λ more c w. (c, inr w)) rest ends))

  -- under another relation that has the same
  pub viewed_longest : {A : Type 0} {p : List T → Read T A} {U V : List T → A → Type 0} → Longest p U → ((ts : List T) (a : A) → U ts a → V ts a) → ((ts : List T) (a : A) → V ts a → U ts a) → Longest p V
  viewed_longest {A} {p} {U} {V} P to from = record { reads = λ front rest a v ends. P.reads front rest a (from front a v) (ends_in V U front front (λ more c w. (c, to (front ++ more) c w)) rest ends) }

module _ {T : Type 0} {turn : T → Turn} where
  -- what anything may follow is read whatever follows
  pub reads_longest : {A : Type 0} {p : List T → Read T A} {U : List T → A → Type 0} {d e : ℕ} → Reads turn p U Any d e → Longest p U
  reads_longest P = record { reads = λ front rest a u ends. P.never front rest a u tt }

  -- what a reader promises last
  pub reads_never : {A : Type 0} {p : List T → Read T A} {U : List T → A → Type 0} {F : Option T → Type 0} {d e : ℕ} → Reads turn p U F d e → Never p U F
  reads_never P = record { reads = P.never }

  module _ {A : Type 0} {q : List T → Read T A} {V : List T → A → Type 0} {F : Option T → Type 0} {d : ℕ} (test : T → Bool) (Q : Reads turn q V F d d) (starts : Starts V test) (goes : (o : Option T) → passes test o ≡ true → F o) (opens : Opens V test) (L : Longest q V) where
    -- an item before others is read, since the next of them may follow it; and the last is, since nothing goes on
    item_allowed : (x y rest : List T) (a : A) (vs : List A) → V x a → Many V y vs → EndsAt (Many V) (x ++ y) rest → Allowed (q (x ++ (y ++ rest))) (a, y ++ rest)
    item_allowed x y rest a [] v none ends =
        let here : EndsAt (Many V) x rest = subst (λ (l : List T). EndsAt (Many V) l rest) (ap (λ l. x ++ l) none ∙ append-nil x) ends in
        subst (λ (l : List T). Allowed (q (x ++ (l ++ rest))) (a, l ++ rest)) (sym none)
        (L.reads x rest a v (ends_in (Many V) V x x (λ more c w. (c ∷ [], (x ++ more, [], sym (append-nil (x ++ more)), w, refl))) rest here))
    item_allowed x y rest a (b ∷ vs) v (z, w, e, u, m) ends =
        Q.never x (y ++ rest) a v (goes (first (y ++ rest)) (ap (λ l. passes test (first l)) (ap (λ l. l ++ rest) e ∙ append_assoc z w rest) ∙ starts z (w ++ rest) b u))

    -- item by item
    all_allowed : (front rest : List T) (vs : List A) → Many V front vs → EndsAt (Many V) front rest → Allowed (many test q (front ++ rest)) (vs, rest)
    all_allowed front rest [] none ends =
        let bare : EndsAt (Many V) [] rest = subst (λ (l : List T). EndsAt (Many V) l rest) none ends in
        let not : passes test (first rest) ≡ false = none_opens (Many V) test (λ t is. let it = opens t is in (it.0, it.1 ∷ [], (t ∷ it.0, [], sym (append-nil (t ∷ it.0)), it.2, refl))) rest bare in
        inl (ap (λ l. many test q (l ++ rest)) none ∙ many_none test q V F d Q starts goes rest not)
    all_allowed front rest (a ∷ vs) (x, y, e, v, m) ends =
        let here : EndsAt (Many V) (x ++ y) rest = subst (λ (l : List T). EndsAt (Many V) l rest) e ends in
        allowed_at (many test q (front ++ rest)) (q (x ++ (y ++ rest)) >>= λ x. many test q x.1 >>= λ xs. Ok (x.0 ∷ xs.0, xs.1)) (a ∷ vs, rest)
        (ap (many test q) (ap (λ l. l ++ rest) e ∙ append_assoc x y rest) ∙ many_some test q V F d Q starts goes (x ++ (y ++ rest)) (starts x (y ++ rest) a v))
        (bind_allowed (q (x ++ (y ++ rest))) (λ x. many test q x.1 >>= λ xs. Ok (x.0 ∷ xs.0, xs.1)) (a, y ++ rest) (a ∷ vs, rest) (item_allowed x y rest a vs v m here)
        (bind_allowed (many test q (y ++ rest)) (λ xs. Ok (a ∷ xs.0, xs.1)) (vs, rest) (a ∷ vs, rest)
        (all_allowed y rest vs m (ends_in (Many V) (Many V) (x ++ y) y (λ more us w. (a ∷ us, (x, y ++ more, append_assoc x y more, v, w))) rest here)) (inl refl)))

    -- { item }
    pub many_longest : Longest (many test q) (Many V)
    many_longest = record { reads = all_allowed }

    -- one, and as many others as begin so: likewise
    pub then_many_longest : {B C : Type 0} {p : List T → Read T B} {U : List T → B → Type 0} (f : B → List A → C) → Never p U F → Longest p U → Longest (bind p (λ b. bind (many test q) (λ vs. done (f b vs)))) (Then U (λ b. Image (f b) (Many V)))
    then_many_longest {B} {C} {p} {U} f P M = then_longest p first_allowed (λ b. mapped_longest (f b) many_longest)
      where
        first_allowed : (b : B) (x y rest : List T) (c : C) → U x b → Image (f b) (Many V) y c → EndsAt (Then U (λ b. Image (f b) (Many V))) (x ++ y) rest → Allowed (p (x ++ (y ++ rest))) (b, y ++ rest)
        first_allowed b x y rest c u ([], none, same) ends =
            let here : EndsAt (Then U (λ b. Image (f b) (Many V))) x rest = subst (λ (l : List T). EndsAt (Then U (λ b. Image (f b) (Many V))) l rest) (ap (λ l. x ++ l) none ∙ append-nil x) ends in
            subst (λ (l : List T). Allowed (p (x ++ (l ++ rest))) (b, l ++ rest)) (sym none)
            (M.reads x rest b u (ends_in (Then U (λ b. Image (f b) (Many V))) U x x (λ more g w. (f g [], (g, x ++ more, [], sym (append-nil (x ++ more)), w, ([], refl, refl)))) rest here))
        first_allowed b x y rest c u (a ∷ vs, (z, w, e, v, m), same) ends =
            P.reads x (y ++ rest) b u (goes (first (y ++ rest)) (ap (λ l. passes test (first l)) (ap (λ l. l ++ rest) e ∙ append_assoc z w rest) ∙ starts z (w ++ rest) a v))
