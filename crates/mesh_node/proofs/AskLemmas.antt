-- How a node's own clients go on to stand for its log after the question of one of them.
use Rattle.std.proofs.Common.{◌≡◌, ◌≤◌, ℕ, Option, Some, None, arith}
use Rattle.std.specs.Option.{option_or}
use Rattle.mesh_base.specs.declared.address.Mac.{Mac}
use Rattle.mesh_model.specs.declared.ending.LimitName.{LimitName}
use Rattle.mesh_model.specs.Clients.Limits.{limit_of_mention}
use Rattle.mesh_model.specs.Clients.Log.{Log}
use Rattle.mesh_model.specs.Clients.Mentions.{Mention, mentions, sighted_after}
use Rattle.mesh_model.specs.Commits.History.{history}
use Rattle.mesh_model.specs.Routes.Queries.{Queries}
use Rattle.node_arp.specs.declared.question.Question.{Question}
use Rattle.node_clients.specs.FrameRows.{HasMentioned, sighting_of}
use Rattle.node_ground.specs.OwnStands.{HasClients, newest_moment, with_input}
use Rattle.node_ground.proofs.OwnLemmas.{few_news}
use Rattle.tt_local.specs.Locals.{LocalsView}
use Rattle.mesh_node.specs.Questions.{asking_client, given_question}

within_one : (o : Option LimitName) → option_or o None ≡ None → o ≡ None
within_one None is = is
within_one (Some limit) is = is

-- after a question
pub has_asked : (q : Queries) (old new : LocalsView) (me : Mac) (asked : Question) (log : Log) (now : ℕ) → HasClients old me log → newest_moment log ≤ now
    → HasMentioned new me log (sighting_of log now (asking_client asked)) → HasClients new me (with_input q me log now (given_question asked))
has_asked q old new me asked log now has late mentioned =
    let mention : Mention = record { moment = now; key = asking_client asked; news = sighted_after log } in
    record {
      since = mentioned.since;
      stand = mentioned.stand;
      settled = (let settled = mentioned.settled in omega (arith, settled, late));
      few = few_news (mentions me log) (history me log) (newest_moment log) mention has.few late (within_one (limit_of_mention (mentions me log) mention) mentioned.within);
    }
