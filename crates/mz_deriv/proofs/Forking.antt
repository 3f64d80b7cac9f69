-- A command has a rule, or goes on in branches, and never both.
use Rattle.std.proofs.Common.{◌≡◌, ◌≢◌, ℕ, true, false, List, [], Option, None, Some, refl}
use Rattle.mz_tree.specs.Plain.{Atom}
use Rattle.mz_tree.specs.Code.{Op, If_op, Match_op, op_branches}
use Rattle.mz_decl.specs.Declarations.{Decls}
use Rattle.mz_flow.specs.Branches.{walked_bodies}
use Rattle.mz_deriv.specs.Rules.{Rule}

-- what has a rule goes on in no branches
pub rule_is_straight : (D : Decls) (R : List (Atom ℕ)) (c : ℕ) (op : Op) (uses : Option (Atom ℕ)) (T : List (Atom ℕ)) → Rule D R c op uses T → op_branches op ≡ false
rule_is_straight D R c (If_op test on_true on_false giving) None T r = absurd r
rule_is_straight D R c (If_op test on_true on_false giving) (Some a) T r = absurd r
rule_is_straight D R c (Match_op block data_type cases giving) None T r = absurd r
rule_is_straight D R c (Match_op block data_type cases giving) (Some a) T r = absurd r
rule_is_straight D R c op uses T r = refl

-- and none of its bodies is walked
pub no_bodies : (op : Op) (uses : Option (Atom ℕ)) → op_branches op ≡ false → walked_bodies op uses ≡ []
no_bodies (If_op test on_true on_false giving) uses e = absurd (cc)
no_bodies (Match_op block data_type cases giving) uses e = absurd (cc)
no_bodies op uses e = refl

-- so what goes on in branches is one of the two kinds that do
pub fork_branches : (op : Op) (uses : Option (Atom ℕ)) → walked_bodies op uses ≢ [] → op_branches op ≡ true
fork_branches (If_op test on_true on_false giving) uses n = refl
fork_branches (Match_op block data_type cases giving) uses n = refl
fork_branches op uses n = absurd (n refl)
