use Rattle.mesh_tie.proofs.CarriedClients.{carries_clients, carries_given_frames, hands_out_given_frames}
use Rattle.mesh_tie.proofs.CarriedOn.{keeps_put_facts, pictures_are_true, sends_put_facts, tells_put_facts}
use Rattle.mesh_tie.proofs.sent_laws.carried_frames_were_given.Goals as goal

pub returns-clause-given : goal.returns-clause-given
returns-clause-given c = carries_given_frames

pub returns-clause-handed_out : goal.returns-clause-handed_out
returns-clause-handed_out c = hands_out_given_frames

pub returns-clause-clients : goal.returns-clause-clients
returns-clause-clients c = carries_clients

pub returns-clause-facts : goal.returns-clause-facts
returns-clause-facts c = tells_put_facts

pub returns-clause-kept : goal.returns-clause-kept
returns-clause-kept c = keeps_put_facts

pub returns-clause-sent : goal.returns-clause-sent
returns-clause-sent c = sends_put_facts

pub returns-clause-pictures : goal.returns-clause-pictures
returns-clause-pictures c = pictures_are_true
