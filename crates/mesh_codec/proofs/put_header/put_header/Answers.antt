use Rattle.mesh_codec.proofs.Puts.{header_put}
use Rattle.mesh_codec.proofs.put_header.put_header.Goals as goal

pub returns-in-IvOgm-clause-parts : goal.returns-in-IvOgm-clause-parts
returns-in-IvOgm-clause-parts c = rw c.in-IvOgm.is c.put_iv_ogm.ensures.parts

pub returns-in-Bcast-clause-parts : goal.returns-in-Bcast-clause-parts
returns-in-Bcast-clause-parts c = rw c.in-Bcast.is (header_put _ _ _ (c.put_bcast.ensures.parts c.args.tail_len))

pub returns-in-Elp-clause-parts : goal.returns-in-Elp-clause-parts
returns-in-Elp-clause-parts c = rw c.in-Elp.is (header_put _ _ _ (c.put_elp.ensures.parts c.args.tail_len))

pub returns-in-Ogm2-clause-parts : goal.returns-in-Ogm2-clause-parts
returns-in-Ogm2-clause-parts c = rw c.in-Ogm2.is (header_put _ _ _ c.put_ogm2.ensures.parts)

pub returns-in-Unicast-clause-parts : goal.returns-in-Unicast-clause-parts
returns-in-Unicast-clause-parts c = rw c.in-Unicast.is (header_put _ _ _ (c.put_unicast.ensures.parts c.args.tail_len))

pub returns-in-Frag-clause-parts : goal.returns-in-Frag-clause-parts
returns-in-Frag-clause-parts c = rw c.in-Frag.is (header_put _ _ _ (c.put_frag.ensures.parts c.args.tail_len))

pub returns-in-Unicast4-clause-parts : goal.returns-in-Unicast4-clause-parts
returns-in-Unicast4-clause-parts c = rw c.in-Unicast4.is (header_put _ _ _ (c.put_unicast4.ensures.parts c.args.tail_len))

pub returns-in-Icmp-clause-parts : goal.returns-in-Icmp-clause-parts
returns-in-Icmp-clause-parts c = rw c.in-Icmp.is (header_put _ _ _ (c.put_icmp.ensures.parts c.args.tail_len))

pub returns-in-Utvlv-clause-parts : goal.returns-in-Utvlv-clause-parts
returns-in-Utvlv-clause-parts c = rw c.in-Utvlv.is (header_put _ _ _ c.put_utvlv.ensures.parts)
