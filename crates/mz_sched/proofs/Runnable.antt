-- A schedule may run tame code within the limits of options.
use Rattle.std.proofs.Common.{◌≡◌, inl, inr, ℕ, Option, Some, None, refl, sym, ap, ◌∙◌, subst, arith}
use Rattle.std.proofs.lemmas.Bool.{cases_lt}
use Rattle.std.specs.Prelude.{slice_get}
use Rattle.mz_words.specs.declared.code.Act.{Act}
use Rattle.mz_words.specs.declared.code.Act.TheVariants.{Const, Copy, Arith, New, Read, Write, Retag, Switch, Branch, Jump, Call, Return, Give, Take, NewLock, Acquire, Release, Spawn, Print}
use Rattle.mz_words.specs.declared.code.Instr.{Instr}
use Rattle.mz_words.specs.declared.code.Code.{Code}
use Rattle.mz_words.specs.declared.options.Options.{Options}
use Rattle.mz_words.specs.InRange.{ActInRange, CodeInRange}
use Rattle.mz_words.specs.Tame.{Tame}
use Rattle.mz_words.specs.Limits.{AreWithinLimits}
use Rattle.mz_thread.specs.Keeping.{IsForward, IsForwardAt, GoesForward}
use Rattle.mz_sched.specs.Running.{IsRunnable}

forward_act : (n at last : ℕ) (act : Act) → ActInRange n at last act → IsForward at act
forward_act n at last (Branch test zero) r = r.1
forward_act n at last (Jump target) r = r.0
forward_act n at last (Const to value) r = tt
forward_act n at last (Copy to source) r = tt
forward_act n at last (Arith to operator left right) r = tt
forward_act n at last (New to con fields) r = tt
forward_act n at last (Read to block con field) r = tt
forward_act n at last (Write to block con field source) r = tt
forward_act n at last (Retag to block old con) r = tt
forward_act n at last (Switch block cons targets) r = tt
forward_act n at last (Call to callee args) r = tt
forward_act n at last (Return source) r = tt
forward_act n at last (Give to block adopter) r = tt
forward_act n at last (Take to block adopter) r = tt
forward_act n at last (NewLock to) r = tt
forward_act n at last (Acquire to lock) r = tt
forward_act n at last (Release to lock) r = tt
forward_act n at last (Spawn to callee arg) r = tt
forward_act n at last (Print to source) r = tt

some_instr : {x y : Instr} → Some x ≡ Some y → x ≡ y
some_instr e = cc

-- code in range goes forward: an instruction is one of a function, or the return at its end
forward : (c : Code) → CodeInRange c → GoesForward c
forward c range at = by_instr (slice_get c.instrs at) refl
  where
    by_instr : (x : Option Instr) → slice_get c.instrs at ≡ x → IsForwardAt at x
    by_instr None e = tt
    by_instr (Some i) e = let f = range.covered at i e in elim (cases_lt at f.range.last) [
      | inl h ↦ forward_act f.start.registers at f.range.last i.act (f.range.each at i f.behind h e)
      | inr h ↦ (let within = f.within in
          let same : at ≡ f.range.last = omega (arith, h, within) in
          subst (λ (x : Instr). IsForward at x.act) (some_instr (sym f.range.returns ∙ ap (λ n. slice_get c.instrs n) (sym same) ∙ e)) tt)
    ]

pub runnable : (c : Code) (o : Options) → Tame c → AreWithinLimits o → IsRunnable c o
runnable c o tame limits = record {
  forward = forward c tame.in_range;
  faultless = λ first s opens events. tame.faultless o first s limits.most_steps (opens, events);
  steps = limits.most_steps;
  tries = let h = limits.tries in omega (arith, h);
  few_tries = limits.most_tries;
  heap = limits.heap;
  small = limits.most_heap;
}
