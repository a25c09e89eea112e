-- A message of ping or traceroute as the definitions see it. The main word is `icmp_of`.
use Rattle.mesh_model.specs.Acts.ProbeRows.{IcmpMessage}
use Rattle.node_probes.specs.declared.icmp_message.IcmpMessage as here

-- the message
abbrev pub icmp_of : here.IcmpMessage → IcmpMessage
icmp_of m = record {
  ttl = m.ttl;
  kind = m.kind;
  dst = m.dst;
  orig = m.orig;
  uid = m.uid;
  seq = m.seq;
}
