-- Bodies and functions begin in the code as in the plain machine.
use Rattle.std.proofs.Common.{◌≡◌, ℕ, List, [], map, Some, refl, sym, ap, ◌∙◌, slice_get, option_map}
use Rattle.std.proofs.Math.Path.{fun_ext}
use Rattle.std.proofs.Math.ListN.{get_or-map}
use Rattle.std.proofs.lemmas.Option.{slice_get-map}
use Rattle.mz_tree.specs.Code.{Command, commands_in}
use Rattle.mz_tree.specs.Programs.{Fun}
use Rattle.mz_tree.specs.View.{plain_commands, plain_body, plain_fun, plain_sig, plain_program}
use Rattle.mz_tree.proofs.CodeViews.{commands_in_body, result_of_body}
use Rattle.mz_tree.specs.declared.code.Command.{Command as CodeCommand}
use Rattle.mz_tree.specs.declared.code.Body.{Body as CodeBody, out-Body}
use Rattle.mz_tree.specs.declared.program.Fun.{Fun as CodeFun}
use Rattle.mz_tree.specs.declared.program.Sig.{Sig as CodeSig}
use Rattle.mz_tree.specs.declared.program.Program.{Program as CodeProgram}
use Rattle.mz_named.specs.Configurations.{Environment, Rest, Frame}
use Rattle.mz_named.specs.Bodies.{value_at, rest_of, start}
use Rattle.mz_named.specs.Planning.{IsCallee}
use Rattle.mz_named.specs.View.{plain_value, env_of}
use Rattle.mz_named.specs.declared.config.Value.{Value as CodeValue}
use Rattle.mz_named.specs.declared.config.Value.TheVariants as value

abbrev rest : List Command → ℕ → Rest
rest cs v = record { commands = cs; value = v }

abbrev frame : Environment → Rest → Frame
frame e r = record { env = e; rest = r; outer = [] }

-- all of a body, from the commands that the program holds
pub rest_begins : (b : CodeBody) (commands : List CodeCommand) → commands ≡ (out-Body b).commands → rest (plain_commands commands) (out-Body b).result ≡ rest_of (plain_body b)
rest_begins b commands same =
    ap (λ cs. rest (plain_commands cs) (out-Body b).result) same
    ∙ ap (λ cs. rest cs (out-Body b).result) (sym (commands_in_body b))
    ∙ ap (rest (commands_in (plain_body b))) (sym (result_of_body b))

-- the environment of values that are kept
pub same_env : (values : List CodeValue) → env_of values ≡ value_at (map plain_value values)
same_env values = fun_ext (λ n. sym (get_or-map plain_value values n (value.Int 0)))

-- the frame in which a function begins
pub frame_begins : (f : Fun) (values : List CodeValue) (r : Rest) → r ≡ rest_of f.body → frame (env_of values) r ≡ start f (map plain_value values)
frame_begins f values r same = ap (λ e. frame e r) (same_env values) ∙ ap (frame (value_at (map plain_value values))) same

-- the function of a number, with its signature
pub is_callee : (p : CodeProgram) (number count : ℕ) (fun : CodeFun) (sig : CodeSig) → slice_get p.funs number ≡ Some fun → slice_get p.sigs fun.sig ≡ Some sig → sig.count ≡ count →
    IsCallee (plain_program p) (plain_value (value.Fun number)) count (plain_fun fun)
is_callee p number count fun sig declared signed many = (
  record {
    number = number;
    is = refl;
    fun = plain_fun fun;
    declared = slice_get-map plain_fun p.funs number ∙ ap (option_map plain_fun) declared;
    sig = plain_sig sig;
    signed = slice_get-map plain_sig p.sigs fun.sig ∙ ap (option_map plain_sig) signed;
    many = many;
  },
  refl,
)
