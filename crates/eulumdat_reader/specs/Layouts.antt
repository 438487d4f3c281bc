-- What the head of the code stands for. No contract of a public call speaks of it.
use Rattle.eulumdat_reader.specs.declared.head.Head.{Head}
use Rattle.eulumdat_reader.specs.Eulumdat.{Layout}

-- what a head says of the lists behind it
abbrev pub head_layout : Head → Layout
head_layout head = record { sym = head.sym; planes = head.planes; gammas = head.gammas; scale = head.scale }
