-- A rule that takes the first of equal copies takes one of the copies, and where any copy will do the first does too.
use Rattle.std.proofs.Common.{ℕ, List, Option, Some}
use Rattle.mz_tree.specs.Plain.{Atom, Named_type, Has_atom}
use Rattle.mz_tree.specs.Code.{Op, Give_op, Take_op}
use Rattle.mz_decl.specs.Declarations.{Decls}
use Rattle.mz_perm.specs.Lists.{Any_copy, First_copy}
use Rattle.mz_perm.proofs.Firsts.{takes_any}
use Rattle.mz_adopt.specs.Adopting.{AdoptionRule}

-- only a give takes anything out
pub adoption_any : (D : Decls) (R : List (Atom ℕ)) (c : ℕ) (op : Op) (uses : Option (Atom ℕ)) (T : List (Atom ℕ)) → AdoptionRule First_copy D R c op uses T → AdoptionRule Any_copy D R c op uses T
adoption_any D R c (Give_op x y) (Some a) T r = record { adopted = r.adopted; adopter = r.adopter; rest = r.rest; taken = takes_any (Has_atom x (Named_type r.adopted)) R r.rest r.taken; held = r.held; new = r.new }
adoption_any D R c (Take_op x y) (Some a) T r = r
adoption_any D R c op uses T r = absurd r
