use Rattle.std.proofs.Common.{rules, ◌≡◌, ◌∙◌, ap, ap₂, Some, ℤ, pos}
use Rattle.std.specs.Int.{int_max, int_min}
use Rattle.clap.specs.Values.{signed_between}
use Rattle.clap.specs.declared.builder.value_parser.ValueParser.TheVariants.{Signed}
use Rattle.mesh_words.proofs.command.generate_arg.Goals as goal

pub returns-clause-rule : goal.returns-clause-rule
returns-clause-rule c =
    let ranged : c.range-nodes.result ≡ Signed (pos 3) (pos 64) = rw (c.from.ensures, c.from-2.ensures) at (rw c.value_parser.ensures at c.range-nodes.ensures ∙ ap₂ (λ (a b : ℤ). signed_between (int_max (pos 0) a) (int_min (pos 255) b)) c.new.ensures.start c.new.ensures.end) in
    let given = c.value_parser-2.ensures.given in
    let parser : c.value_parser-2.result.value_parser ≡ Some (Signed (pos 3) (pos 64)) = given.1 ∙ ap Some (given.2 ∙ ranged) in
    search (rules, parser)
