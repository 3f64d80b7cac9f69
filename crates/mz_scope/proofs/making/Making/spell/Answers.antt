use Rattle.std.proofs.Common.{◌≡◌, ◌++◌, ◌∷◌, [], ap, ◌∙◌}
use Rattle.mz_scope.specs.Making.{Came_to}
use Rattle.mz_scope.specs.View.{made_of}
use Rattle.mz_scope.proofs.ScopeNames.{spelled_last}
use Rattle.mz_scope.proofs.making.Making.spell.Goals as goal

pub returns-in_ok-push : goal.returns-in_ok-push
unfolding made_of
returns-in_ok-push c =
    let pushed : c.push.new.self ≡ c.pop.new.self ++ record { spelling = c.args.text.now; place = c.in-Some.last.place } ∷ [] =
    c.in_ok-push.ensures.ok ∙ ap (λ s. c.pop.new.self ++ record { spelling = s; place = c.in-Some.last.place } ∷ []) c.in_ok-spelling.ensures in
    ap (λ names. Came_to tt (record (made_of c.args.self.now) { names = names }))
    (spelled_last c.args.text.now c.args.self.now.names c.pop.new.self c.push.new.self c.in-Some.last c.in-Some.ensures pushed)
