-- A body is its parts.
use Rattle.std.proofs.Common.{◌≡◌, ℕ, List, sym, ◌∙◌}
use Rattle.mz_tree.specs.declared.types.Place.{Place}
use Rattle.mz_tree.specs.declared.code.Body.{Body, out-Body, roll-Body, roll-out-Body}
use Rattle.mz_tree.specs.declared.code.Command.{Command}

body_of : List Command → ℕ → Place → Body
body_of commands result place = roll-Body (record { commands = commands; result = result; place = place })

is_body_of : (b : Body) → body_of (out-Body b).commands (out-Body b).result (out-Body b).place ≡ b
unfolding body_of
is_body_of b = roll-out-Body b

-- bodies of the same parts are the same
pub same_parts : (a b : Body) → (out-Body a).commands ≡ (out-Body b).commands → (out-Body a).result ≡ (out-Body b).result → (out-Body a).place ≡ (out-Body b).place → a ≡ b
same_parts a b commands result place =
    let whole : body_of (out-Body a).commands (out-Body a).result (out-Body a).place ≡ body_of (out-Body b).commands (out-Body b).result (out-Body b).place = cc in
    sym (is_body_of a) ∙ whole ∙ is_body_of b
