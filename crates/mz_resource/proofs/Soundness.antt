-- The laws, for each program that was read: what is asked of declarations and bodies follows from that.
use Rattle.std.proofs.Common.{refl}
use Rattle.mz_resource.specs.Laws.{KeepsView, KeepsCommand, OpeningIsHeld, HeldIsFine, Sound}
use Rattle.mz_resource.proofs.KeepsView.{view_keeps}
use Rattle.mz_resource.proofs.KeepsCommand.{command_keeps}
use Rattle.mz_resource.proofs.OpeningIsHeld.{opening_held}
use Rattle.mz_resource.proofs.Threads.Ready.{ready}
use Rattle.mz_resource.proofs.Safety.{runs, held_fine, safe}
use Rattle.mz_resource.proofs.Programs.FromScoped.{lawful, core, main_is_plain}

pub keeps_view : KeepsView
keeps_view p w h k f below s items R scoped declared = view_keeps p w h k f below s items R (lawful p scoped declared)

pub keeps_command : KeepsCommand
keeps_command p scripts w w' h k scoped derivable held s =
    let L = lawful p scoped derivable.declared in
    let t = runs p w w' k s in
    let r = ready p w k t.0 t.1 L t.2 (h.thread k).top.script h held refl in
    (r.then', r.views, r.at, command_keeps p scripts w w' r.then' k L (core p scoped) derivable r.held r.at s)

pub opening_is_held : OpeningIsHeld
opening_is_held p scripts w scoped derivable = opening_held p scripts w (lawful p scoped derivable.declared) (core p scoped) (main_is_plain p scoped) derivable

pub held_is_fine : HeldIsFine
held_is_fine p w h scoped declared = held_fine p (lawful p scoped declared) w h

pub sound : Sound
sound p scripts scoped derivable = safe p scripts (lawful p scoped derivable.declared) (core p scoped) derivable (main_is_plain p scoped)
