use Rattle.std.proofs.Common.{subst}
use Rattle.node_tables.proofs.KnownLemmas.{announced_is, asked_out, released_more, told_more}
use Rattle.node_ground.specs.KnowledgeStands.{KnowledgeStands, coming}
use Rattle.tt_global.specs.Kept.{stamp_in}
use Rattle.node_tables.proofs.announcements.take_announcement.Goals as goal

pub returns-clause-asked : goal.returns-clause-asked
returns-clause-asked g c = λ me known table stands tells.
    let q = g.A.Algo.queries me in
    let orig = c.args.orig in
    let announced = c.args.announced.now in
    let told = told_more orig 0 (stamp_in announced) announced.changes known in
    let stand = c.release.ensures me told (c.in_ok-wanted.ensures.noted me known 0 stands) in
    asked_out q c.args.came.now orig 0 announced table known c.in_ok-wanted.wanted c.in_ok-request.request tells (c.in_ok-wanted.ensures.wanted me known stands)
    (c.in_ok-request.ensures.asked me (released_more orig told) stand)

pub returns-clause-noted : goal.returns-clause-noted
returns-clause-noted g c = λ me known table number stands tells.
    let q = g.A.Algo.queries me in
    let orig = c.args.orig in
    let announced = c.args.announced.now in
    let told = told_more orig number (stamp_in announced) announced.changes known in
    let stand = c.release.ensures me told (c.in_ok-wanted.ensures.noted me known number stands) in
    let is = asked_out q c.args.came.now orig number announced table known c.in_ok-wanted.wanted c.in_ok-request.request tells (c.in_ok-wanted.ensures.wanted me known stands)
    (c.in_ok-request.ensures.asked me (released_more orig told) stand) in
    subst (λ after. KnowledgeStands g.A.Algo.stands c.ask.new.kept me after) (announced_is q (coming c.args.came number) orig announced table known c.in_ok-request.request tells is)
    (c.in_ok-request.ensures.noted me (released_more orig told) stand)
