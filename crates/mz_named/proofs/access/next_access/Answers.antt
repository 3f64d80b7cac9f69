use Rattle.std.proofs.Common.{◌≡◌, ◌<◌, List, [], length, map, get_or, Some, refl, sym, ap, ◌∙◌, subst, slice_get}
use Rattle.std.proofs.lemmas.Option.{slice_get_read}
use Rattle.std.proofs.lemmas.List.{length-map}
use Rattle.mz_tree.specs.View.{plain_op, plain_program}
use Rattle.mz_named.specs.Accessing.{reads_of, writes_of, Accesses}
use Rattle.mz_named.specs.View.{plain_thread, plain_config, env_of}
use Rattle.mz_named.specs.declared.access.Access.{Access}
use Rattle.mz_named.specs.declared.config.Thread.{Thread as CodeThread}
use Rattle.mz_named.proofs.NextOnes.{accesses, done_accesses, ended_accesses, stopped_accesses}
use Rattle.mz_named.proofs.OneThread.{if_ok}
use Rattle.mz_named.proofs.access.next_access.Goals as goal

-- what is indexed stands there
standing : (threads : List CodeThread) (k : _) (t u : CodeThread) → k < length (map plain_thread threads) → t ≡ get_or threads k t → t ≡ u → slice_get threads k ≡ Some u
standing threads k t u within is same = slice_get_read threads (length threads) k t refl (subst (λ n. k < n) (length-map threads plain_thread) within) is ∙ ap Some same

pub returns-in-Some : goal.returns-in-Some
returns-in-Some c = if_ok c.access_of.result
    (λ (a : Access). (a.reads ≡ reads_of (env_of c.as_slice.result.now) (plain_op c.in-Some.command.now.op)) × (a.writes ≡ writes_of (env_of c.as_slice.result.now) (plain_op c.in-Some.command.now.op)))
    (λ (a : Access). Accesses (plain_config c.args.config.now) c.args.thread a.reads a.writes)
    (λ (a : Access) are. accesses (plain_program c.args._program.now) c.args.config.now.cells.items c.args.config.now.prints c.args.config.now.threads.items c.args.thread c.in-Running.top c.in-Running.below c.in-Some.command.now a.reads a.writes
    (standing c.args.config.now.threads.items c.args.thread c.index.result.now _ c.requires c.index.ensures c.in-Running.is) (sym c.in-Some.ensures.value)
    (are.0 ∙ ap (λ vs. reads_of (env_of vs) (plain_op c.in-Some.command.now.op)) c.as_slice.ensures)
    (are.1 ∙ ap (λ vs. writes_of (env_of vs) (plain_op c.in-Some.command.now.op)) c.as_slice.ensures))
    c.access_of.ensures

pub returns-in-None : goal.returns-in-None
returns-in-None c =
    subst (λ ws. Accesses (plain_config c.args.config.now) c.args.thread c.nothing.result.reads ws) (sym c.nothing.ensures.writes)
    (subst (λ rs. Accesses (plain_config c.args.config.now) c.args.thread rs []) (sym c.nothing.ensures.reads)
    (done_accesses (plain_program c.args._program.now) c.args.config.now.cells.items c.args.config.now.prints c.args.config.now.threads.items c.args.thread c.in-Running.top c.in-Running.below
    (standing c.args.config.now.threads.items c.args.thread c.index.result.now _ c.requires c.index.ensures c.in-Running.is) (sym c.in-None.ensures.value)))

pub returns-in-Ended : goal.returns-in-Ended
returns-in-Ended c =
    subst (λ ws. Accesses (plain_config c.args.config.now) c.args.thread c.nothing-in-Ended.result.reads ws) (sym c.nothing-in-Ended.ensures.writes)
    (subst (λ rs. Accesses (plain_config c.args.config.now) c.args.thread rs []) (sym c.nothing-in-Ended.ensures.reads)
    (ended_accesses (plain_program c.args._program.now) c.args.config.now.cells.items c.args.config.now.prints c.args.config.now.threads.items c.args.thread
    (standing c.args.config.now.threads.items c.args.thread c.index.result.now _ c.requires c.index.ensures c.in-Ended.is)))

pub returns-in-Stopped : goal.returns-in-Stopped
returns-in-Stopped c =
    subst (λ ws. Accesses (plain_config c.args.config.now) c.args.thread c.nothing-in-Stopped.result.reads ws) (sym c.nothing-in-Stopped.ensures.writes)
    (subst (λ rs. Accesses (plain_config c.args.config.now) c.args.thread rs []) (sym c.nothing-in-Stopped.ensures.reads)
    (stopped_accesses (plain_program c.args._program.now) c.args.config.now.cells.items c.args.config.now.prints c.args.config.now.threads.items c.args.thread
    (standing c.args.config.now.threads.items c.args.thread c.index.result.now _ c.requires c.index.ensures c.in-Stopped.is)))
