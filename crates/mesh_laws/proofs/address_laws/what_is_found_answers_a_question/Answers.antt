use Rattle.mesh_laws.proofs.AskLemmas.{awaited_by_lines}
use Rattle.mesh_laws.proofs.QuestionLemmas.{awaited_until_told, found_answers_question, none_awaited_until_asked, question_finds_none}
use Rattle.mesh_laws.proofs.address_laws.what_is_found_answers_a_question.Goals as goal

pub returns : goal.returns
returns c = record { found = found_answers_question; none = question_finds_none; awaited = awaited_until_told; lines = awaited_by_lines; once = none_awaited_until_asked }
