-- An OGM that came, as the definitions see it. The main words are `ogm_in` and `head_of`.
use Rattle.mesh_model.specs.declared.packet.Head.{Head}
use Rattle.mesh_model.specs.declared.packet.Head.TheVariants.{Ogm2}
use Rattle.mesh_model.specs.Routes.Ogm2.{OgmV}
use Rattle.mesh_v.specs.declared.ogm.OgmCame.{OgmCame}

-- the OGM
abbrev pub ogm_in : OgmCame → OgmV
ogm_in came = record {
  ttl = came.ttl;
  flags = came.flags;
  seq = came.seq;
  orig = came.orig;
  throughput = came.throughput;
}

-- its head
abbrev pub head_of : OgmCame → Head
head_of came = Ogm2 came.ttl came.flags came.seq came.orig came.throughput
