-- The first copy is one of the copies: where a rule leads if the first of equal copies goes, it leads if any may go.
use Rattle.std.proofs.Common.{ℕ, List, Option, Some, None}
use Rattle.mz_tree.specs.Plain.{Ty, Atom, Named_type, Block_type, Has_atom, Same_atom}
use Rattle.mz_tree.specs.Code.{Op, Command, Case, Body, Int_op, Unit_op, Fun_op, Copy_op, Arith_op, New_op, Read_op, Write_op, Retag_op, Call_op, Print_op, If_op, Match_op, op_of, con_of, case_list}
use Rattle.mz_decl.specs.Declarations.{Decls}
use Rattle.mz_decl.specs.Signatures.{needed, at_args}
use Rattle.mz_modes.specs.Affine.{AffineAtom}
use Rattle.mz_modes.proofs.Firsts.{opens_any}
use Rattle.mz_perm.specs.Lists.{Any_copy, First_copy}
use Rattle.mz_perm.proofs.Firsts.{takes_any, uses_all_any}
use Rattle.mz_flow.specs.Commands.{Replaces, Calls, PlainRule}
use Rattle.mz_flow.specs.Branches.{StartsAt, StartsMatch, StartsBy, Begins}

replaces_any : (a b : Atom ℕ) (R : List (Atom ℕ)) (c : ℕ) (T : List (Atom ℕ)) → Replaces First_copy a b R c T → Replaces Any_copy a b R c T
replaces_any a b R c T r = record { rest = r.rest; taken = takes_any a R r.rest r.taken; new = r.new }

calls_any : (D : Decls) (R : List (Atom ℕ)) (c g : ℕ) (ys : List ℕ) (a : Atom ℕ) (T : List (Atom ℕ)) → Calls First_copy D R c g ys a T → Calls Any_copy D R c g ys a T
calls_any D R c g ys a T r = record { callee = r.callee; rest = r.rest; used = uses_all_any (AffineAtom D) (at_args ys (needed r.callee.sig.needs)) R r.rest r.used; back = r.back; gives_back = r.gives_back; new = r.new }

pub plain_any : (D : Decls) (R : List (Atom ℕ)) (c : ℕ) (op : Op) (uses : Option (Atom ℕ)) (T : List (Atom ℕ)) → PlainRule First_copy D R c op uses T → PlainRule Any_copy D R c op uses T
plain_any D R c (Int_op n) None T r = r
plain_any D R c Unit_op None T r = r
plain_any D R c (Fun_op function) None T r = r
plain_any D R c (Copy_op y) None T r = r
plain_any D R c (Arith_op operator y z) None T r = r
plain_any D R c (New_op con fields) None T r = r
plain_any D R c (Read_op y con field) (Some a) T r = r
plain_any D R c (Write_op y con field z) (Some a) T r = record { fields = r.fields; adopts = r.adopts; block = r.block; mutable = r.mutable; within = r.within; changed = replaces_any _ _ R c T r.changed }
plain_any D R c (Retag_op y old new) (Some a) T r = record { fields = r.fields; adopts = r.adopts; block = r.block; mutable = r.mutable; con = r.con; declared = r.declared; left = r.left; adopts_left = r.adopts_left; changed = replaces_any _ _ R c T r.changed }
plain_any D R c (Call_op g ys) (Some a) T r = calls_any D R c g ys a T r
plain_any D R c (Print_op y) None T r = r
plain_any D R c op uses T r = absurd r

at_any : (D : Decls) (R : List (Atom ℕ)) (y d : ℕ) (a : Atom ℕ) (t : Ty ℕ) (cases : List Case) (k fresh : ℕ) (S : List (Atom ℕ)) → StartsAt First_copy D R y d a t cases k fresh S → StartsAt Any_copy D R y d a t cases k fresh S
at_any D R y d a (Block_type con fields adopts) cases k fresh S s = s
at_any D R y d a (Named_type other) cases k fresh S s = record { same_type = s.same_type; case = s.case; is_case = s.is_case; opens = opens_any D R y d (con_of s.case) fresh S s.opens }
at_any D R y d a t cases k fresh S s = absurd s

match_any : (D : Decls) (R : List (Atom ℕ)) (y d : ℕ) (a : Atom ℕ) (cases : List Case) (k fresh : ℕ) (S : List (Atom ℕ)) → StartsMatch First_copy D R y d a cases k fresh S → StartsMatch Any_copy D R y d a cases k fresh S
match_any D R y d (Has_atom x t) cases k fresh S s = (s.0, at_any D R y d (Has_atom x t) t cases k fresh S s.1)
match_any D R y d (Same_atom x z) cases k fresh S s = absurd s

starts_any : (D : Decls) (R : List (Atom ℕ)) (op : Op) (uses : Option (Atom ℕ)) (k fresh : ℕ) (S : List (Atom ℕ)) → StartsBy First_copy D R op uses k fresh S → StartsBy Any_copy D R op uses k fresh S
starts_any D R (If_op y on_true on_false giving) None k fresh S s = s
starts_any D R (Match_op y d cases giving) (Some a) k fresh S s = match_any D R y d a (case_list cases) k fresh S s
starts_any D R op uses k fresh S s = absurd s

pub begins_any : (D : Decls) (R : List (Atom ℕ)) (command : Command) (uses : Option (Atom ℕ)) (k fresh : ℕ) (body : Body) (S : List (Atom ℕ)) → Begins First_copy D R command uses k fresh body S → Begins Any_copy D R command uses k fresh body S
begins_any D R command uses k fresh body S b = record { new = b.new; walked = b.walked; starts = starts_any D R (op_of command) uses k fresh S b.starts }
