-- What is known of the body of a text of the first form while it is made: as long as no command's value is a function, the
-- commands go by kinds.
use Rattle.std.proofs.Common.{◌≡◌, ℕ, Bool, true, false, ◌||◌, List, [], ◌∷◌, ◌++◌, length, Some, refl, sym, ◌∙◌, slice_get, arith}
use Rattle.std.specs.List.{list_any}
use Rattle.std.proofs.lemmas.List.Folds.{list_any-append}
use Rattle.mz_tree.specs.declared.types.Place.{Place}
use Rattle.mz_tree.specs.Code.{Op, Command, The_command, op_of}
use Rattle.mz_scope.specs.Names.{Names}
use Rattle.mz_scope.specs.Making.{Made, add_command}
use Rattle.mz_cli.specs.FirstForm.{is_function}
use Rattle.mz_cli.proofs.Places.{stays}
use Rattle.mz_cli.proofs.NameKinds.{NameKind, Int_kind, Unit_kind, Cell_kind, Kinds, Gives}
use Rattle.mz_cli.proofs.Commands.{at_end, one_longer, Ends, ends_one, Fits, fits_more, fits_bound}
use Rattle.mz_scoped.proofs.Goes.{Goes, made_in, commanded}

-- no command's value is a function
abbrev pub NoFunction : List Command → Type 0
NoFunction commands = list_any (λ (c : Command). is_function (op_of c)) commands ≡ false

neither : (b c : Bool) → (b || c) ≡ false → (b ≡ false) × (c ≡ false)
neither false c is = (refl, is)
neither true c is = cc

-- so it was before the last command
no_function_before : (commands : List Command) (c : Command) → NoFunction (commands ++ c ∷ []) → NoFunction commands × (is_function (op_of c) ≡ false)
no_function_before commands c none =
    let test : Command → Bool = λ (x : Command). is_function (op_of x) in
    let parts = neither (list_any test commands) (list_any test (c ∷ [])) (sym (list_any-append test commands (c ∷ [])) ∙ none) in
    (parts.0, (neither (test c) false parts.1).0)

-- these names have this kind
abbrev pub AreOf : NameKind → Kinds → List ℕ → Type 0
AreOf kind kinds [] = Unit {0}
AreOf kind kinds (x ∷ names) = (slice_get kinds x ≡ Some kind) × AreOf kind kinds names

are_more : (kind : NameKind) (kinds more : Kinds) (names : List ℕ) → AreOf kind kinds names → AreOf kind (kinds ++ more) names
are_more kind kinds more [] all = tt
are_more kind kinds more (x ∷ names) (one, all) = (stays kinds more x kind one, are_more kind kinds more names all)

-- the commands go by kinds, the names of the scope are blocks, and so are these cells; these ints are numbers
pub record Known (scope : Names ℕ) (ints cells : List ℕ) (m : Made) : Type 0 where
  pub kinds : Kinds
  pub numbered : length m.names ≡ length kinds
  pub ends : Ends [] m.commands kinds
  pub fits : Fits kinds scope
  pub numbers : AreOf Int_kind kinds ints
  pub blocks : AreOf Cell_kind kinds cells

abbrev pub Sofar : Names ℕ → List ℕ → List ℕ → Made → Type 0
Sofar scope ints cells m = (m.clauses ≡ []) × (NoFunction m.commands → Known scope ints cells m)

-- the command fits what is known
abbrev pub FitsIn : Names ℕ → List ℕ → List ℕ → Op → NameKind → Type 0
FitsIn scope ints cells op kind = (kinds : Kinds) → Fits kinds scope → AreOf Int_kind kinds ints → AreOf Cell_kind kinds cells → is_function op ≡ false → Gives kinds op kind

module _ (scope : Names ℕ) (ints cells : List ℕ) (place : Place) (op : Op) where
  abbrev after : Made → Made
  after m = made_in (add_command place op m)

  -- what is known after a command, and its own kind
  record Next (kind : NameKind) (m : Made) : Type 0 where
    known : Known scope ints cells (after m)
    here : slice_get known.kinds (length m.names) ≡ Some kind

  next : (kind : NameKind) (m : Made) → FitsIn scope ints cells op kind → (NoFunction m.commands → Known scope ints cells m) → NoFunction (after m).commands → Next kind m
  next kind m fits known none =
      let before = no_function_before m.commands (The_command (length m.names) op place) none in
      let k = known before.0 in
      record {
        known = record {
          kinds = k.kinds ++ kind ∷ [];
          numbered = omega (arith, one_longer m.names (record { spelling = []; place = place }), one_longer k.kinds kind, k.numbered);
          ends = ends_one [] k.kinds m.commands (The_command (length m.names) op place) kind k.ends (k.numbered, fits k.kinds k.fits k.numbers k.blocks before.1);
          fits = fits_more k.kinds (kind ∷ []) scope k.fits;
          numbers = are_more Int_kind k.kinds (kind ∷ []) ints k.numbers;
          blocks = are_more Cell_kind k.kinds (kind ∷ []) cells k.blocks;
        };
        here = at_end k.kinds kind (length m.names) k.numbered;
      }

  int_made : FitsIn scope ints cells op Int_kind → (m : Made) → Sofar scope ints cells m → Sofar scope (length m.names ∷ ints) cells (after m)
  int_made fits m sofar = (
    sofar.0,
    λ none. let n = next Int_kind m fits sofar.1 none in record {
      kinds = n.known.kinds;
      numbered = n.known.numbered;
      ends = n.known.ends;
      fits = n.known.fits;
      numbers = (n.here, n.known.numbers);
      blocks = n.known.blocks;
    },
  )

  unit_made : FitsIn scope ints cells op Unit_kind → (m : Made) → Sofar scope ints cells m → Sofar scope ints cells (after m)
  unit_made fits m sofar = (sofar.0, λ none. (next Unit_kind m fits sofar.1 none).known)

  cell_made : FitsIn scope ints cells op Cell_kind → (m : Made) → Sofar scope ints cells m → Sofar scope ints (length m.names ∷ cells) (after m)
  cell_made fits m sofar = (
    sofar.0,
    λ none. let n = next Cell_kind m fits sofar.1 none in record {
      kinds = n.known.kinds;
      numbered = n.known.numbered;
      ends = n.known.ends;
      fits = n.known.fits;
      numbers = n.known.numbers;
      blocks = (n.here, n.known.blocks);
    },
  )

  -- a command that gives a number, `()` or a block
  pub int_goes : FitsIn scope ints cells op Int_kind → Goes (Sofar scope ints cells) (add_command place op) (λ n. Sofar scope (n ∷ ints) cells)
  int_goes fits = commanded place op (int_made fits)

  pub unit_goes : FitsIn scope ints cells op Unit_kind → Goes (Sofar scope ints cells) (add_command place op) (λ n. Sofar scope ints cells)
  unit_goes fits = commanded place op (unit_made fits)

  pub cell_goes : FitsIn scope ints cells op Cell_kind → Goes (Sofar scope ints cells) (add_command place op) (λ n. Sofar scope ints (n ∷ cells))
  cell_goes fits = commanded place op (cell_made fits)

-- ---- what is known may be forgotten

pub fewer : (scope : Names ℕ) (ints cells : List ℕ) (x y : ℕ) (m : Made) → Sofar scope (x ∷ ints) (y ∷ cells) m → Sofar scope (x ∷ ints) cells m
fewer scope ints cells x y m sofar = (
  sofar.0,
  λ none. let k = sofar.1 none in record {
    kinds = k.kinds;
    numbered = k.numbered;
    ends = k.ends;
    fits = k.fits;
    numbers = k.numbers;
    blocks = k.blocks.1;
  },
)

pub sum_alone : (scope : Names ℕ) (ints cells : List ℕ) (x y z : ℕ) (m : Made) → Sofar scope (z ∷ y ∷ x ∷ ints) cells m → Sofar scope (z ∷ ints) cells m
sum_alone scope ints cells x y z m sofar = (
  sofar.0,
  λ none. let k = sofar.1 none in record {
    kinds = k.kinds;
    numbered = k.numbered;
    ends = k.ends;
    fits = k.fits;
    numbers = (k.numbers.0, k.numbers.1.1.1);
    blocks = k.blocks;
  },
)

-- all but the scope
pub scope_alone : (scope : Names ℕ) (ints cells : List ℕ) (m : Made) → Sofar scope ints cells m → Sofar scope [] [] m
scope_alone scope ints cells m sofar = (
  sofar.0,
  λ none. let k = sofar.1 none in record {
    kinds = k.kinds;
    numbered = k.numbered;
    ends = k.ends;
    fits = k.fits;
    numbers = tt;
    blocks = tt;
  },
)

pub block_alone : (scope : Names ℕ) (ints : List ℕ) (n : ℕ) (m : Made) → Sofar scope ints (n ∷ []) m → Sofar scope [] (n ∷ []) m
block_alone scope ints n m sofar = (
  sofar.0,
  λ none. let k = sofar.1 none in record {
    kinds = k.kinds;
    numbered = k.numbered;
    ends = k.ends;
    fits = k.fits;
    numbers = tt;
    blocks = k.blocks;
  },
)

-- a block's name is in scope from here on
pub in_scope : (scope : Names ℕ) (ints cells : List ℕ) (name : List ℕ) (n : ℕ) (m : Made) → Sofar scope ints (n ∷ cells) m → Sofar (scope ++ (name, n) ∷ []) [] [] m
in_scope scope ints cells name n m sofar = (
  sofar.0,
  λ none. let k = sofar.1 none in record {
    kinds = k.kinds;
    numbered = k.numbered;
    ends = k.ends;
    fits = fits_bound k.kinds scope name n k.fits k.blocks.0;
    numbers = tt;
    blocks = tt;
  },
)
