use Rattle.std.proofs.Common.{◌∙◌, ap, sym, Some}
use Rattle.tt_table.proofs.EntriesLemmas.{flags_there, no_flags}
use Rattle.tt_table.proofs.entries.Entries.get.Goals as goal

pub returns-in-Ok : goal.returns-in-Ok
returns-in-Ok c =
    let there = rw (← c.self.view_is) at c.in-Ok.ensures.there in
    rw (← c.self.view_is) (ap (λ e. Some e.flags) c.index.ensures ∙ sym (flags_there c.args.key c.self.inside.entries.items c.in-Ok.place c.index.result.now there))

pub returns-in-Err : goal.returns-in-Err
returns-in-Err c = sym (no_flags c.args.key c.args.self.now.entries c.in-Err.field-0 c.in-Err.ensures.gap)
