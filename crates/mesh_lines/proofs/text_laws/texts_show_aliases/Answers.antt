use Rattle.mesh_lines.proofs.TextLawLemmas.{texts_show_aliases}
use Rattle.mesh_lines.proofs.text_laws.texts_show_aliases.Goals as goal

pub returns : goal.returns
returns c = texts_show_aliases
