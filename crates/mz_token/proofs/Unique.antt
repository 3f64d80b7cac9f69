-- The longest piece at a place is one, so a text is cut in at most one way, up to where no lawful piece stands.
use Rattle.std.proofs.Common.{ℕ, List, [], ◌∷◌, ◌++◌, ◌≡◌, ◌⊎◌, inl, inr, Some, None, refl, sym, ap, ◌∙◌, subst, append-nil, append_assoc, arith}
use Rattle.mz_tree.specs.declared.types.Place.{Place}
use Rattle.mz_token.specs.declared.token.LexFault.TheVariants.{Byte, Number, NameTooLong, Memory}
use Rattle.mz_token.specs.Shapes.{IsLongest, IsLawful, IsLongName, IsLargeNumber}
use Rattle.mz_tree.specs.Shapes.{Shape, Blank_shape, Comment_shape, Lower_shape, Upper_shape, Number_shape, Mark_shape, shape_of}
use Rattle.mz_token.specs.Places.{place_of}
use Rattle.mz_token.specs.Lexes.{Piece, joined, IsCut, tokens_after, Lexes, NoPiece, Over, FaultsAt}
use Rattle.mz_token.specs.Laws.{AtMostOneList, AtMostOneFault, NoListAndFault}

-- one of two fronts of a text goes on where the other ends
abbrev GoesOn : List ℕ → List ℕ → List ℕ → List ℕ → Type 0
GoesOn x u y v = (more : List ℕ) × (y ≡ x ++ more) × (u ≡ more ++ v)

fronts : (x u y v : List ℕ) → x ++ u ≡ y ++ v → GoesOn x u y v ⊎ GoesOn y v x u
fronts [] u y v h = inl (y, refl, h)
fronts (a ∷ x) u [] v h = inr (a ∷ x, refl, sym h)
fronts (a ∷ x) u (b ∷ y) v h =
    let first : a ≡ b = cc in
    let others : x ++ u ≡ y ++ v = cc in
    elim (fronts x u y v others) [
      | inl w ↦ inl (w.0, (let same : y ≡ x ++ w.0 = w.1 in cc), w.2)
      | inr w ↦ inr (w.0, (let same : x ≡ y ++ w.0 = w.1 in cc), w.2)
    ]

pub record SamePiece (s t : Shape) (x u y v : List ℕ) : Type 0 where
  pub shape : s ≡ t
  pub text : x ≡ y
  pub rest : u ≡ v

-- where one goes on, the other isn't the longest
goes_on : (s t : Shape) (x u y v more : List ℕ) → IsLongest s x u → IsLongest t y v → y ≡ x ++ more → u ≡ more ++ v → SamePiece s t x u y v
goes_on s t x u y v [] p q longer rest =
    let same : x ≡ y = sym (longer ∙ append-nil x) in
    let shapes : Some s ≡ Some t = sym p.shaped ∙ ap shape_of same ∙ q.shaped in
    record { shape = cc; text = same; rest = rest }
goes_on s t x u y v (c ∷ more) p q longer rest =
    let none : Some t ≡ None = sym q.shaped ∙ ap shape_of longer ∙ p.longest (c ∷ more) v rest (omega arith) in
    absurd (cc)

pub longest_unique : (s t : Shape) (x u y v : List ℕ) → IsLongest s x u → IsLongest t y v → x ++ u ≡ y ++ v → SamePiece s t x u y v
longest_unique s t x u y v p q h = elim (fronts x u y v h) [
  | inl w ↦ goes_on s t x u y v w.0 p q w.1 w.2
  | inr w ↦ (let back = goes_on t s y v x u w.0 q p w.1 w.2 in record { shape = sym back.shape; text = sym back.text; rest = sym back.rest })
]

-- ---- where a cut ends

-- no lawful piece stands there
abbrev pub Ends : List ℕ → Type 0
Ends rest = (shape : Shape) (text others : List ℕ) → rest ≡ text ++ others → IsLongest shape text others → IsLawful shape text → ⊥

ends_nil : Ends []
ends_nil shape [] others split longest lawful = (let none : None ≡ Some shape = longest.shaped in absurd (cc))
ends_nil shape (c ∷ text) others split longest lawful = absurd (cc)

ends_none : (rest : List ℕ) → NoPiece rest → Ends rest
ends_none rest stands shape text others split longest lawful =
    let none : None ≡ Some shape = sym (stands.none text others split) ∙ longest.shaped in
    absurd (cc)

ends_over : (IsOver : Shape → List ℕ → Type 0) → ((shape : Shape) (text : List ℕ) → IsOver shape text → IsLawful shape text → ⊥) → (rest : List ℕ) → Over IsOver rest → Ends rest
ends_over IsOver apart rest stands shape text others split longest lawful =
    let same = longest_unique stands.shape shape stands.text stands.others text others stands.longest longest (sym stands.split ∙ split) in
    apart shape text (subst (λ s. IsOver s text) same.shape (subst (IsOver stands.shape) same.text stands.over)) lawful

large_apart : (shape : Shape) (text : List ℕ) → IsLargeNumber shape text → IsLawful shape text → ⊥
large_apart Blank_shape text over lawful = over
large_apart Comment_shape text over lawful = over
large_apart Lower_shape text over lawful = over
large_apart Upper_shape text over lawful = over
large_apart Number_shape text over lawful = absurd (omega arith)
large_apart (Mark_shape number) text over lawful = over

long_apart : (shape : Shape) (text : List ℕ) → IsLongName shape text → IsLawful shape text → ⊥
long_apart Blank_shape text over lawful = over
long_apart Comment_shape text over lawful = over
long_apart Lower_shape text over lawful = absurd (omega arith)
long_apart Upper_shape text over lawful = absurd (omega arith)
long_apart Number_shape text over lawful = over
long_apart (Mark_shape number) text over lawful = over

long_or_large : (shape : Shape) (text : List ℕ) → IsLongName shape text → IsLargeNumber shape text → ⊥
long_or_large Blank_shape text long large = long
long_or_large Comment_shape text long large = long
long_or_large Lower_shape text long large = large
long_or_large Upper_shape text long large = large
long_or_large Number_shape text long large = long
long_or_large (Mark_shape number) text long large = long

ends_large : (rest : List ℕ) → Over IsLargeNumber rest → Ends rest
ends_large = ends_over IsLargeNumber large_apart

ends_long : (rest : List ℕ) → Over IsLongName rest → Ends rest
ends_long = ends_over IsLongName long_apart

-- ---- one cut

pub record SameCut (ps qs : List Piece) (u v : List ℕ) : Type 0 where
  pub pieces : ps ≡ qs
  pub rest : u ≡ v

same_piece : (p q : Piece) → p.shape ≡ q.shape → p.text ≡ q.text → p ≡ q
same_piece p q shape text = let make : Shape → List ℕ → Piece = λ s t. record { shape = s; text = t } in ap (λ s. make s p.text) shape ∙ ap (make q.shape) text

pub cut_unique : (ps qs : List Piece) (u v : List ℕ) → IsCut ps u → IsCut qs v → joined ps ++ u ≡ joined qs ++ v → Ends u → Ends v → SameCut ps qs u v
cut_unique [] [] u v c d h e f = record { pieces = refl; rest = h }
cut_unique [] (q ∷ qs) u v c d h e f = absurd (e q.shape q.text (joined qs ++ v) (h ∙ append_assoc q.text (joined qs) v) d.0.longest d.0.lawful)
cut_unique (p ∷ ps) [] u v c d h e f = absurd (f p.shape p.text (joined ps ++ u) (sym h ∙ append_assoc p.text (joined ps) u) c.0.longest c.0.lawful)
cut_unique (p ∷ ps) (q ∷ qs) u v c d h e f =
    let first = longest_unique p.shape q.shape p.text (joined ps ++ u) q.text (joined qs ++ v) c.0.longest d.0.longest (sym (append_assoc p.text (joined ps) u) ∙ h ∙ append_assoc q.text (joined qs) v) in
    let others = cut_unique ps qs u v c.1 d.1 first.rest e f in
    record { pieces = ap (λ r. r ∷ ps) (same_piece p q first.shape first.text) ∙ ap (λ rs. q ∷ rs) others.pieces; rest = others.rest }

-- ---- the laws

pub one_list : AtMostOneList
one_list bytes tokens others a b =
    let same = cut_unique a.pieces b.pieces [] [] a.cut b.cut (ap (λ text. text ++ []) (sym a.all ∙ b.all)) ends_nil ends_nil in
    a.words ∙ ap (tokens_after []) same.pieces ∙ sym b.words

-- two faults of one text stand at one place, before the same rest
pub record SameEnd (S T : List ℕ → Type 0) (p q : Place) : Type 0 where
  pub place : p ≡ q
  pub rest : List ℕ
  pub first : S rest
  pub second : T rest

one_end : (S T : List ℕ → Type 0) → ((rest : List ℕ) → S rest → Ends rest) → ((rest : List ℕ) → T rest → Ends rest) → (bytes : List ℕ) (p q : Place) → FaultsAt S bytes p → FaultsAt T bytes q → SameEnd S T p q
one_end S T s t bytes p q a b =
    let same = cut_unique a.pieces b.pieces a.rest b.rest a.cut b.cut (sym a.all ∙ b.all) (s a.rest a.stands) (t b.rest b.stands) in
    record {
      place = a.here ∙ ap (λ pieces. place_of (joined pieces)) same.pieces ∙ sym b.here;
      rest = b.rest;
      first = subst S same.rest a.stands;
      second = b.stands;
    }

none_or_over : (IsOver : Shape → List ℕ → Type 0) (rest : List ℕ) → NoPiece rest → Over IsOver rest → ⊥
none_or_over IsOver rest none over =
    let clash : None ≡ Some over.shape = sym (none.none over.text over.others over.split) ∙ over.longest.shaped in
    absurd (cc)

over_apart : (rest : List ℕ) → Over IsLongName rest → Over IsLargeNumber rest → ⊥
over_apart rest long large =
    let same = longest_unique long.shape large.shape long.text long.others large.text large.others long.longest large.longest (sym long.split ∙ large.split) in
    long_or_large large.shape large.text (subst (λ s. IsLongName s large.text) same.shape (subst (IsLongName long.shape) same.text long.over)) large.over

pub one_fault : AtMostOneFault
one_fault bytes (Byte p) (Byte q) a b = ap Byte (one_end NoPiece NoPiece ends_none ends_none bytes p q a b).place
one_fault bytes (Byte p) (Number q) a b = let e = one_end NoPiece (Over IsLargeNumber) ends_none ends_large bytes p q a b in absurd (none_or_over IsLargeNumber e.rest e.first e.second)
one_fault bytes (Byte p) (NameTooLong q) a b = let e = one_end NoPiece (Over IsLongName) ends_none ends_long bytes p q a b in absurd (none_or_over IsLongName e.rest e.first e.second)
one_fault bytes (Byte p) Memory a b = absurd b
one_fault bytes (Number p) (Byte q) a b = let e = one_end NoPiece (Over IsLargeNumber) ends_none ends_large bytes q p b a in absurd (none_or_over IsLargeNumber e.rest e.first e.second)
one_fault bytes (Number p) (Number q) a b = ap Number (one_end (Over IsLargeNumber) (Over IsLargeNumber) ends_large ends_large bytes p q a b).place
one_fault bytes (Number p) (NameTooLong q) a b = let e = one_end (Over IsLongName) (Over IsLargeNumber) ends_long ends_large bytes q p b a in absurd (over_apart e.rest e.first e.second)
one_fault bytes (Number p) Memory a b = absurd b
one_fault bytes (NameTooLong p) (Byte q) a b = let e = one_end NoPiece (Over IsLongName) ends_none ends_long bytes q p b a in absurd (none_or_over IsLongName e.rest e.first e.second)
one_fault bytes (NameTooLong p) (Number q) a b = let e = one_end (Over IsLongName) (Over IsLargeNumber) ends_long ends_large bytes p q a b in absurd (over_apart e.rest e.first e.second)
one_fault bytes (NameTooLong p) (NameTooLong q) a b = ap NameTooLong (one_end (Over IsLongName) (Over IsLongName) ends_long ends_long bytes p q a b).place
one_fault bytes (NameTooLong p) Memory a b = absurd b
one_fault bytes Memory other a b = absurd a

-- a fault stands before some byte, and a list of tokens is cut to the end
list_apart : (S : List ℕ → Type 0) → ((rest : List ℕ) → S rest → Ends rest) → (S [] → ⊥) → (bytes : List ℕ) (tokens : _) (place : Place) → Lexes bytes tokens → FaultsAt S bytes place → ⊥
list_apart S s never bytes tokens place a b =
    let same = cut_unique a.pieces b.pieces [] b.rest a.cut b.cut (append-nil (joined a.pieces) ∙ sym a.all ∙ b.all) ends_nil (s b.rest b.stands) in
    never (subst S (sym same.rest) b.stands)

over_nil : (IsOver : Shape → List ℕ → Type 0) → Over IsOver [] → ⊥
over_nil IsOver over = none_or_over_nil over.text over.others over.shape over.split over.longest.shaped
  where
    none_or_over_nil : (text others : List ℕ) (shape : Shape) → [] ≡ text ++ others → shape_of text ≡ Some shape → ⊥
    none_or_over_nil [] others shape split shaped = (let none : None ≡ Some shape = shaped in absurd (cc))
    none_or_over_nil (c ∷ text) others shape split shaped = absurd (cc)

none_nil : NoPiece [] → ⊥
none_nil none = let some = none.more in absurd (omega arith)

pub list_or_fault : NoListAndFault
list_or_fault bytes tokens (Byte place) a b = list_apart NoPiece ends_none none_nil bytes tokens place a b
list_or_fault bytes tokens (Number place) a b = list_apart (Over IsLargeNumber) ends_large (over_nil IsLargeNumber) bytes tokens place a b
list_or_fault bytes tokens (NameTooLong place) a b = list_apart (Over IsLongName) ends_long (over_nil IsLongName) bytes tokens place a b
list_or_fault bytes tokens Memory a b = absurd b
