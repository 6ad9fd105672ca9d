use Rattle.std.proofs.Common.{◌≡◌, take}
use Rattle.std.specs.String.{string_bytes}
use Rattle.rosa_nodes.specs.Nodes.{words_of}
use Rattle.rosa_nodes.proofs.nodes.words_of.Given as goal

abbrev pub invariant-loop-node : goal.invariant-loop-node
invariant-loop-node l = string_bytes l.text ≡ words_of (take l.node-index l.nodes)
