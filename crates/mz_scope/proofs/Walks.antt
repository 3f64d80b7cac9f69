-- Lists that are gone over, where what comes of a member is a part by itself, and a member's number may count.
use Rattle.std.proofs.Common.{◌≡◌, ℕ, ◌+◌, ◌<◌, ◌≤◌, List, [], ◌∷◌, ◌++◌, length, get_or, drop, take, map, refl, sym, ap, ap₂, ◌∙◌}
use Rattle.std.proofs.lemmas.List.{take_all}
use Rattle.mz_scope.specs.Making.{Made, Came, Came_to, Part, goes_on, give}
use Rattle.mz_scope.proofs.Lists.{with_front, one_more, drop_here, take_here, seen_more}

-- a member comes, and then the rest of its list: its value may come first, by itself
pub came_then : {A B C : Type 0} (v : A → B) (next : B → Part C) (came : Came A) → goes_on (λ a. next (v a)) came ≡ goes_on next (goes_on (λ a. give (v a)) came)
came_then v next (Came_to a made) = refl

-- the same where something comes before it
pub came_behind : {A B C : Type 0} (part : Part A) (v : A → B) (next : B → Part C) (came : Came (Unit {0})) → goes_on (λ _. λ made. goes_on (λ a. next (v a)) (part made)) came ≡ goes_on next (goes_on (λ _. λ made. goes_on (λ a. give (v a)) (part made)) came)
came_behind part v next (Came_to _ made) = came_then v next (part made)

-- what comes of the rest of a list, behind one value
abbrev pub behind_one : {B : Type 0} → Part (List B) → B → Part (List B)
behind_one rest b = λ made. goes_on (λ others. give (b ∷ others)) (rest made)

-- one more member came; the parts of the members behind it may be others
pub list_walk : {X B : Type 0} (parts later : List X → Part (List B)) (all : List X) (i : ℕ) (a : X) (front new : List B) (b : B) (whole : Came (List B)) (m m1 : Made) → whole ≡ with_front front (parts (drop i all) m) → i < length all → a ≡ get_or all i a
    → parts (a ∷ drop (i + 1) all) m ≡ goes_on (λ others. give (b ∷ others)) (later (drop (i + 1) all) m1) → new ≡ front ++ b ∷ [] → whole ≡ with_front new (later (drop (i + 1) all) m1)
list_walk parts later all i a front new b whole m m1 before h e one more =
    before ∙ ap (λ l. with_front front (parts l m)) (drop_here all i a h e) ∙ ap (with_front front) one ∙ one_more front b (later (drop (i + 1) all) m1) ∙ ap (λ l. with_front l (later (drop (i + 1) all) m1)) (sym more)

-- one more member of a list is seen as it is to be
pub view_walk : {X B C : Type 0} (view : B → C) (meant : X → C) (all : List X) (i : ℕ) (a : X) (front new : List B) (b : B) → map view front ≡ map meant (take i all) → i < length all → a ≡ get_or all i a → view b ≡ meant a → new ≡ front ++ b ∷ []
    → map view new ≡ map meant (take (i + 1) all)
view_walk view meant all i a front new b before h e same more =
    seen_more view front new b more ∙ ap₂ (λ l x. l ++ x ∷ []) before same ∙ sym (seen_more meant (take i all) (take (i + 1) all) a (take_here all i a h e))

-- all of them are
pub view_end : {X B C : Type 0} (view : B → C) (meant : X → C) (all : List X) (i : ℕ) (front : List B) → map view front ≡ map meant (take i all) → length all ≤ i → map view front ≡ map meant all
view_end view meant all i front before h = before ∙ ap (map meant) (take_all i all h)

pub map_map : {A B C : Type 0} (f : A → B) (k : B → C) (l : List A) → map (λ a. k (f a)) l ≡ map k (map f l)
map_map f k [] = refl
map_map f k (a ∷ rest) = ap (λ l. k (f a) ∷ l) (map_map f k rest)

-- the same of members that are seen as they are
pub take_walk : {X C : Type 0} (meant : X → C) (all : List X) (i : ℕ) (a : X) (front new : List C) (b : C) → front ≡ map meant (take i all) → i < length all → a ≡ get_or all i a → b ≡ meant a → new ≡ front ++ b ∷ []
    → new ≡ map meant (take (i + 1) all)
take_walk meant all i a front new b before h e same more =
    more ∙ ap₂ (λ l x. l ++ x ∷ []) before same ∙ sym (seen_more meant (take i all) (take (i + 1) all) a (take_here all i a h e))

pub take_end : {X C : Type 0} (meant : X → C) (all : List X) (i : ℕ) (front : List C) → front ≡ map meant (take i all) → length all ≤ i → front ≡ map meant all
take_end meant all i front before h = before ∙ ap (map meant) (take_all i all h)
