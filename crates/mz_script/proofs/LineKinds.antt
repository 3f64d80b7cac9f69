-- What a line of a kind says.
use Rattle.std.proofs.Common.{◌≡◌, Bool, true, false, refl}
use Rattle.mz_script.specs.Pieces.{Piece, Head_line, Fun_line, Step_line, Do_line, Case_line, Join_line, End_line, No_line}
use Rattle.mz_script.specs.Places.{heads, steps, does, cases, joins, ends, step_in, uses_in, number_in, atoms_in}

pub step_says : (p : Piece) → steps p ≡ true → p ≡ Step_line (step_in p)
step_says Head_line e = cc
step_says (Fun_line name) e = cc
step_says (Step_line s) e = refl
step_says (Do_line uses) e = cc
step_says (Case_line n) e = cc
step_says (Join_line atoms) e = cc
step_says End_line e = cc
step_says No_line e = cc

pub do_says : (p : Piece) → does p ≡ true → p ≡ Do_line (uses_in p)
do_says Head_line e = cc
do_says (Fun_line name) e = cc
do_says (Step_line s) e = cc
do_says (Do_line uses) e = refl
do_says (Case_line n) e = cc
do_says (Join_line atoms) e = cc
do_says End_line e = cc
do_says No_line e = cc

pub join_says : (p : Piece) → joins p ≡ true → p ≡ Join_line (atoms_in p)
join_says Head_line e = cc
join_says (Fun_line name) e = cc
join_says (Step_line s) e = cc
join_says (Do_line uses) e = cc
join_says (Case_line n) e = cc
join_says (Join_line atoms) e = refl
join_says End_line e = cc
join_says No_line e = cc

pub end_says : (p : Piece) → ends p ≡ true → p ≡ End_line
end_says Head_line e = cc
end_says (Fun_line name) e = cc
end_says (Step_line s) e = cc
end_says (Do_line uses) e = cc
end_says (Case_line n) e = cc
end_says (Join_line atoms) e = cc
end_says End_line e = refl
end_says No_line e = cc

pub head_says : (p : Piece) → heads p ≡ true → p ≡ Head_line
head_says Head_line e = refl
head_says (Fun_line name) e = cc
head_says (Step_line s) e = cc
head_says (Do_line uses) e = cc
head_says (Case_line n) e = cc
head_says (Join_line atoms) e = cc
head_says End_line e = cc
head_says No_line e = cc

pub case_says : (numbered : Bool) (p : Piece) → cases numbered p ≡ true → p ≡ Case_line (number_in p)
case_says true Head_line e = cc
case_says true (Fun_line name) e = cc
case_says true (Step_line s) e = cc
case_says true (Do_line uses) e = cc
case_says true (Case_line n) e = refl
case_says true (Join_line atoms) e = cc
case_says true End_line e = cc
case_says true No_line e = cc
case_says false Head_line e = cc
case_says false (Fun_line name) e = cc
case_says false (Step_line s) e = cc
case_says false (Do_line uses) e = cc
case_says false (Case_line n) e = refl
case_says false (Join_line atoms) e = cc
case_says false End_line e = cc
case_says false No_line e = cc
