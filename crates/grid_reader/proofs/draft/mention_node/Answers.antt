use Rattle.grid_reader.proofs.Mentions.{mentioned_at}
use Rattle.grid_reader.proofs.draft.mention_node.Goals as goal

pub returns-clause-number : goal.returns-clause-number
returns-clause-number c = λ distinct. mentioned_at c.args.nodes.now c.mention.new.self c.args.name c.in_ok-number.number distinct c.in_ok-number.ensures.names c.in_ok-number.ensures.number
