use Rattle.std.proofs.Common.{option_map, sym, ap, ◌∙◌, arith}
use Rattle.std.proofs.lemmas.Option.{slice_get_within}
use Rattle.std.proofs.lemmas.Result.{err_from_is_err_and}
use Rattle.mesh_model.specs.Text.Events.{event_line}
use Rattle.mesh_show.proofs.RowLemmas.{texts-next}
use Rattle.mesh_show.proofs.events.put_events.Goals as goal

pub loop-done-preserved : goal.loop-done-preserved
loop-done-preserved c =
    let found = sym c.at.ensures ∙ ap (option_map (λ e. e.now)) c.in-Some.is in
    record {
      text = texts-next (event_line c.args.names.now) c.args.out.now.items c.loop-done.out.items c.line.new.out.items c.args.events.now c.loop-done.done c.in-Some.event.now found
          c.loop-done.invariant.text c.in_ok-line.ensures.ok;
      within = omega (arith, slice_get_within c.args.events.now c.loop-done.done c.in-Some.event.now found);
    }

pub returns-in_err-line-clause-err : goal.returns-in_err-line-clause-err
returns-in_err-line-clause-err c =
    let p = err_from_is_err_and c.from_residual.result c.from_residual.ensures.1 in
    let found = sym c.at.ensures ∙ ap (option_map (λ e. e.now)) c.in-Some.is in
    rw p.1
    (record {
      count = c.loop-done.done;
      fewer = slice_get_within c.args.events.now c.loop-done.done c.in-Some.event.now found;
      gained = c.in_err-line.ensures.err ∙ c.loop-done.invariant.text;
    })
