-- Lists that are gone over: what stands at a place, what is left from there on, and what of a list came so far.
use Rattle.std.proofs.Common.{◌≡◌, ℕ, ◌+◌, ◌<◌, ◌≤◌, List, [], ◌∷◌, ◌++◌, length, get_or, drop, take, map, Some, slice_get, option_map, refl, sym, ap, ◌∙◌, append_assoc}
use Rattle.std.proofs.Math.ListN.{drop_of_length-le}
use Rattle.std.proofs.lemmas.List.{drop_more, take_more, append-nil}
use Rattle.std.proofs.lemmas.Option.{slice_get_within, get_or_from_slice_get, slice_get-map}
use Rattle.mz_scope.specs.Making.{Made, Came, Came_to, Part, goes_on, give}

-- what is left from a place on begins with what stands there
pub drop_at : {A : Type 0} (l : List A) (i : ℕ) (a : A) → slice_get l i ≡ Some a → drop i l ≡ a ∷ drop (i + 1) l
drop_at l i a h = drop_more l i a (slice_get_within l i a h) ∙ ap (λ x. x ∷ drop (i + 1) l) (get_or_from_slice_get l i a a h)

pub drop_here : {A : Type 0} (l : List A) (i : ℕ) (a : A) → i < length l → a ≡ get_or l i a → drop i l ≡ a ∷ drop (i + 1) l
drop_here l i a h e = drop_more l i a h ∙ ap (λ x. x ∷ drop (i + 1) l) (sym e)

-- what stands up to a place ends with what stands there
pub take_at : {A : Type 0} (l : List A) (i : ℕ) (a : A) → slice_get l i ≡ Some a → take (i + 1) l ≡ take i l ++ a ∷ []
take_at l i a h = take_more l i a (slice_get_within l i a h) ∙ ap (λ x. take i l ++ x ∷ []) (get_or_from_slice_get l i a a h)

pub take_here : {A : Type 0} (l : List A) (i : ℕ) (a : A) → i < length l → a ≡ get_or l i a → take (i + 1) l ≡ take i l ++ a ∷ []
take_here l i a h e = take_more l i a h ∙ ap (λ x. take i l ++ x ∷ []) (sym e)

pub map_at : {A B : Type 0} (f : A → B) (l : List A) (i : ℕ) (a : A) → slice_get l i ≡ Some a → slice_get (map f l) i ≡ Some (f a)
map_at f l i a h = slice_get-map f l i ∙ ap (option_map f) h

-- what came of the front of a list, before what comes of the rest
abbrev pub with_front : {A : Type 0} → List A → Came (List A) → Came (List A)
with_front front came = goes_on (λ rest. give (front ++ rest)) came

-- one more came
pub one_more : {A : Type 0} (front : List A) (a : A) (came : Came (List A)) → with_front front (goes_on (λ rest. give (a ∷ rest)) came) ≡ with_front (front ++ a ∷ []) came
one_more front a (Came_to rest made) = ap (λ l. Came_to l made) (sym (append_assoc front (a ∷ []) rest))

-- nothing came before
pub none_yet : {A : Type 0} (came : Came (List A)) → came ≡ with_front [] came
none_yet (Came_to rest made) = refl

-- a part came, and then what comes next
pub next_came : {A B : Type 0} (next : A → Part B) (first : Came A) (a : A) (made : Made) (came : Came B) → first ≡ Came_to a made → next a made ≡ came → goes_on next first ≡ came
next_came next first a made came h k = ap (goes_on next) h ∙ k

-- a part of a list is gone over from its front: one more came
pub list_step : {X B : Type 0} (parts : List X → Part (List B)) (all : List X) (i : ℕ) (a : X) (front new : List B) (b : B) (whole : Came (List B)) (m m1 : Made) → whole ≡ with_front front (parts (drop i all) m) → i < length all → a ≡ get_or all i a
    → with_front front (parts (a ∷ drop (i + 1) all) m) ≡ with_front (front ++ b ∷ []) (parts (drop (i + 1) all) m1) → new ≡ front ++ b ∷ [] → whole ≡ with_front new (parts (drop (i + 1) all) m1)
list_step parts all i a front new b whole m m1 before h e one more =
    before ∙ ap (λ l. with_front front (parts l m)) (drop_here all i a h e) ∙ one ∙ ap (λ l. with_front l (parts (drop (i + 1) all) m1)) (sym more)

-- all came
pub list_end : {X B : Type 0} (parts : List X → Part (List B)) (all : List X) (i : ℕ) (front : List B) (whole : Came (List B)) (m : Made) → parts [] m ≡ Came_to [] m → whole ≡ with_front front (parts (drop i all) m) → length all ≤ i
    → whole ≡ Came_to front m
list_end parts all i front whole m none before h =
    before ∙ ap (λ l. with_front front (parts l m)) (drop_of_length-le all h) ∙ ap (with_front front) none ∙ ap (λ l. Came_to l m) (append-nil front)

map_more : {A B : Type 0} (view : A → B) (front : List A) (a : A) → map view (front ++ a ∷ []) ≡ map view front ++ view a ∷ []
map_more view [] a = refl
map_more view (x ∷ front) a = ap (λ l. view x ∷ l) (map_more view front a)

-- one more of a list is seen
pub seen_more : {A B : Type 0} (view : A → B) (front new : List A) (a : A) → new ≡ front ++ a ∷ [] → map view new ≡ map view front ++ view a ∷ []
seen_more view front new a e = ap (map view) e ∙ map_more view front a
