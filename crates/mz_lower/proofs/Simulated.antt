-- The law of the simulation, over the code of a program.
use Rattle.mz_lower.specs.Layout.{code_of}
use Rattle.mz_lower.specs.Laws.{Simulates}
use Rattle.mz_lower.proofs.Addresses.{fun_place}
use Rattle.mz_lower.proofs.Calls.{Coded}
use Rattle.mz_lower.proofs.Faultless.{no_fault}
use Rattle.mz_lower.proofs.Raceless.{no_race}
use Rattle.mz_lower.proofs.Opening.{simulates}

-- the induction, and then what is fine by name is fine at the words
pub all_stand : Simulates
all_stand p o first s start able few opens named safe events =
    let m = able.main named.number named.main named.declared named.named in
    let coded : Coded p (code_of p) = record { place = fun_place p; binds = able.binds; room = able.room } in
    let z = simulates p (code_of p) coded o (record { steps = few }) first s start opens named
    (record { number = m.0; sig = m.1; signed = m.2; none = m.3 }) safe events in
    let fine = safe start z.named named z.steps in
    record {
      named = z.named;
      steps = z.steps;
      run = z.run;
      fine = fine;
      stands = z.sim.stands;
      faultless = no_fault p (code_of p) coded o s z.named z.sim fine;
      raceless = no_race p (code_of p) coded o s z.named z.sim fine;
    }
