use Rattle.std.proofs.Common.{rules, ◌∙◌, ◌+◌, ◌*◌, ap₂}
use Rattle.mesh_base.proofs.AddressWords.{bytes_back, word_of_two}
use Rattle.mesh_base.proofs.address.Mac.word.Goals as goal

pub returns-clause-value : goal.returns-clause-value
returns-clause-value c =
    ap₂ (λ m n. m * 65536 + n) (c.from.ensures ∙ c.head.ensures.value) (c.from-2.ensures ∙ c.tail.ensures.value) ∙ word_of_two c.args.self.0 (search rules)

pub returns-clause-bytes : goal.returns-clause-bytes
returns-clause-bytes c =
    let bytes = c.args.self.0 in
    bytes_back bytes _ (search rules) (search rules) (search rules) (search rules) (search rules) (search rules) (search rules) (returns-clause-value c)
