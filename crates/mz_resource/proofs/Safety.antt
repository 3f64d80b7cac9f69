-- What is held is fine, and what steps lead to is held.
use Rattle.std.proofs.Common.{◌≡◌, ◌⊎◌, inl, inr, ℕ, List, [], ◌∷◌, Some, slice_get, refl, sym, subst}
use Rattle.mz_tree.specs.Programs.{Program}
use Rattle.mz_tree.specs.Code.{Command}
use Rattle.mz_decl.specs.Declarations.{decls_of}
use Rattle.mz_modes.specs.Affine.{IsMutableCon}
use Rattle.mz_deriv.specs.Scripts.{Item}
use Rattle.mz_deriv.specs.Derivable.{Derivable}
use Rattle.mz_named.specs.Configurations.{Frame, Suspended, Running, Config}
use Rattle.mz_named.specs.Steps.{NStep, Step_acts, Step_stops, Step_branches, Step_joins, Step_calls, Step_returns, Step_ends, Step_spawns, NSteps, No_steps, More_steps}
use Rattle.mz_named.specs.Safety.{NRace, Waits, IsFine, NamedSafe}
use Rattle.mz_resource.specs.Held.{Holding, Held}
use Rattle.mz_resource.specs.Owners.{Of_thread}
use Rattle.mz_resource.proofs.Programs.Proper.{ProperDecls, ProperBodies}
use Rattle.mz_resource.specs.Following.{AtCommand}
use Rattle.mz_resource.proofs.Meaning.Inverse.{cell_con}
use Rattle.mz_resource.proofs.Threads.Quiet.{thread_is}
use Rattle.mz_resource.proofs.OpeningIsHeld.{MainIsPlain, opening_held}
use Rattle.mz_resource.proofs.Threads.Ready.{ready}
use Rattle.mz_resource.proofs.Fine.Racing.{writer, toucher}
use Rattle.mz_resource.proofs.KeepsCommand.{command_keeps}
use Rattle.mz_resource.proofs.Fine.Progress.{goes_on, ends_on}

-- the thread that makes a step runs
pub runs : (p : Program) (w w' : Config) (k : ℕ) → NStep p w k w' → (f : Frame) × (below : List Suspended) × (slice_get w.threads k ≡ Some (Running f below))
runs p w w' k (Step_acts f below c rest v e' out here acts prints binds puts) = (f, below, here.here)
runs p w w' k (Step_stops f below c rest here stops moves) = (f, below, here.here)
runs p w w' k (Step_branches f below c rest body here ch moves) = (f, below, here.here)
runs p w w' k (Step_joins f below level outer e' here out binds moves) = (f, below, here.here)
runs p w w' k (Step_calls f below c rest callee args here is g moves) = (f, below, here.here)
runs p w w' k (Step_returns f wt below e' here out binds moves) = (f, wt ∷ below, here.here)
runs p w w' k (Step_ends f here out moves) = (f, [], here.here)
runs p w w' k (Step_spawns f below c rest callee arg e' mid here is g binds heap prints one two) = (f, below, here.here)

module _ (p : Program) (L : ProperDecls (decls_of p)) where
  no_race : (w : Config) (h : Holding) → Held p w h → NRace w → ⊥
  no_race w h H x =
      let r = ready p w x.one x.frame x.below L x.stands.here (h.thread x.one).top.script h H refl in
      let q = ready p w x.two x.frame2 x.below2 L x.stands2.here (r.then'.thread x.two).top.script r.then' r.held refl in
      let at1 : AtCommand (q.then'.thread x.one).top.script = subst (λ z. AtCommand z.top.script) (sym (q.others x.one x.differ)) r.at in
      let a = writer p L w q.then' q.held x.one x.frame x.below x.rest at1 x.command x.block x.stands x.writes in
      elim (toucher p L w q.then' q.held x.two x.frame2 x.below2 x.rest2 q.at x.command2 x.block x.stands2 x.touches) [
        | inl b ↦ x.differ (thread_is (q.held.heap.fair.apart (Of_thread x.one) (Of_thread x.two) x.block a.owned b.owned))
        | inr b ↦ b.fixed (subst (λ n. IsMutableCon (decls_of p) n) (cell_con a.made.made b.made.made) a.mutable)
      ]

  pub held_fine : (w : Config) (h : Holding) → Held p w h → IsFine p w
  held_fine w h H = record { goes_on = on; no_race = no_race w h H }
    where
      on : (k : ℕ) (f : Frame) (below : List Suspended) → slice_get w.threads k ≡ Some (Running f below) → ((w' : Config) × NStep p w k w') ⊎ Waits w k
      on k f below here = by f.rest.commands refl
        where
          by : (commands : List Command) → f.rest.commands ≡ commands → ((w' : Config) × NStep p w k w') ⊎ Waits w k
          by [] e = inl (ends_on p w k f below (record { here = here; done = e }))
          by (c ∷ rest) e = let r = ready p w k f below L here (h.thread k).top.script h H refl in goes_on p L w r.then' r.held k f below rest r.at c (record { here = here; first = e })

module _ (p : Program) (scripts : List (List Item)) (L : ProperDecls (decls_of p)) (C : ProperBodies p) (V : Derivable p scripts) where
  pub step_keeps : (w w' : Config) (k : ℕ) → NStep p w k w' → (h : Holding) → Held p w h → (h' : Holding) × Held p w' h'
  step_keeps w w' k s h H =
      let q = runs p w w' k s in
      let r = ready p w k q.0 q.1 L q.2 (h.thread k).top.script h H refl in
      let n = command_keeps p scripts w w' r.then' k L C V r.held r.at s in
      (n.0, n.2)

  pub steps_keep : {w w' : Config} → NSteps p w w' → (h : Holding) → Held p w h → (h' : Holding) × Held p w' h'
  steps_keep No_steps h H = (h, H)
  steps_keep (More_steps k s more) h H = let q = step_keeps _ _ k s h H in steps_keep more q.0 q.1

  pub safe : MainIsPlain p → NamedSafe p
  safe M w w' o steps =
      let h = opening_held p scripts w L C M V o in
      let q = steps_keep steps h.0 h.3 in
      held_fine p L w' q.0 q.1
