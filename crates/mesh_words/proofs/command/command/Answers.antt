use Rattle.std.proofs.Common.{rules, ◌≡◌, ◌∙◌, ap₂}
use Rattle.clap.specs.Words.{app_of, with_rule}
use Rattle.mesh_model.specs.Run.CommandLine.{bare_command}
use Rattle.mesh_words.proofs.command.command.Goals as goal

pub returns-clause-ok : goal.returns-clause-ok
returns-clause-ok c =
    let bare : app_of c.no_binary_name.result ≡ bare_command = search rules in
    c.in_ok-command.ensures.shape c.file_arg.ensures.local
    ∙ ap₂ with_rule (c.in_ok-arg-3.ensures.shape c.bisect_arg.ensures.local
    ∙ ap₂ with_rule (c.in_ok-arg-2.ensures.shape c.generate_arg.ensures.local
    ∙ ap₂ with_rule (c.in_ok-arg.ensures.shape c.frames_arg.ensures.local ∙ ap₂ with_rule bare c.frames_arg.ensures.rule) c.generate_arg.ensures.rule) c.bisect_arg.ensures.rule) c.file_arg.ensures.rule
