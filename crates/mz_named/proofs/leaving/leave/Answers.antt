use Rattle.std.proofs.Common.{◌≡◌, List, length, ◌-◌, slice_get, ap, ◌∙◌, subst}
use Rattle.mz_named.specs.Configurations.{Value}
use Rattle.mz_named.specs.Bodies.{Binds}
use Rattle.mz_named.specs.View.{plain_value, value_in, env_of}
use Rattle.mz_named.specs.declared.config.Value.{Value as CodeValue}
use Rattle.mz_named.proofs.LastOnes.{front_of, none_of}
use Rattle.mz_named.proofs.leaving.leave.Goals as goal

pub returns-in-Some-last : goal.returns-in-Some-last
returns-in-Some-last c =
    let front = front_of c.args.below.now c.in-Some-last.waiting.now c.in-Some-last.ensures.value in
    let value : plain_value c.value_of-value.result ≡ env_of c.args.frame.now.values c.args.frame.now.rest.value = ap plain_value (c.value_of-value.ensures ∙ ap (λ vs. value_in vs c.args.frame.now.rest.value) c.as_slice.ensures) in
    record {
      first = none_of c.args.frame.now.outer.items (c.in_default.ensures.value ∙ ap (λ l. slice_get l (length l - 1)) c.deref.ensures.value);
      before = front.0;
      waiting = c.in-Some-last.waiting.now;
      last = front.1;
      binds = subst (λ (v : Value). Binds (env_of c.in-Some-last.waiting.now.frame.values) c.in-Some-last.waiting.now.to v (env_of c.in_ok-values-2.values)) value
          (subst (λ (vs : List CodeValue). Binds (env_of vs) c.in-Some-last.waiting.now.to (plain_value c.value_of-value.result) (env_of c.in_ok-values-2.values)) c.as_slice-in-Some-last.ensures c.in_ok-values-2.ensures);
    }
