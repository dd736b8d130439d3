-- The cases are a node that is passed or fills the question's cell, rules that answer, and a cell that is wanted.
use Rattle.std.proofs.Common.{[]}
use Rattle.questions.specs.Promises.{point, siblings}
use Rattle.questions.proofs.Threads.{inside}
use Rattle.questions.proofs.Leaving.{all_gone, passing, filling}
use Rattle.questions.proofs.Marking.{marks_none, all_answer, numbered}
use Rattle.questions.proofs.asking.Question.try_point.Goals as goal

pub pass_node-requires-clause-m_len : goal.pass_node-requires-clause-m_len
pass_node-requires-clause-m_len c = inside c.requires.ready.threaded c.requires.node

pub returns-then-p-gt0 : goal.returns-then-p-gt0
returns-then-p-gt0 c = record {
  nodes = [];
  marked = marks_none c.requires.number_set;
  left = passing c.requires.ready c.requires.node c.if-p-gt0.true c.pass_node.ensures;
}

pub mark_rules-requires-clause-rules_beside : goal.mark_rules-requires-clause-rules_beside
mark_rules-requires-clause-rules_beside c = let s = c.args.self.now in
    numbered s.fills_question s.fills_rule s.m.now s.cells.now (point c.args.p) c.if-p-gt0.false c.if-self-p.true c.requires.ready

pub returns-then-self-p : goal.returns-then-self-p
returns-then-self-p c = let s = c.args.self.now in record {
  nodes = siblings s.m.now c.args.p.link;
  marked = c.mark_rules.ensures;
  left = all_gone c.requires.ready c.requires.node (all_answer s.fills_question s.fills_rule s.m.now s.cells.now (point c.args.p) c.if-p-gt0.false c.if-self-p.true);
}

pub pass_node-requires-in-None-clause-m_len : goal.pass_node-requires-in-None-clause-m_len
pass_node-requires-in-None-clause-m_len c = inside c.requires.ready.threaded c.requires.node

pub returns-in-Some : goal.returns-in-Some
returns-in-Some c = record { nodes = []; marked = marks_none c.requires.number_set; left = c.meet_node.ensures }

pub returns-in-None : goal.returns-in-None
returns-in-None c = record {
  nodes = [];
  marked = marks_none c.requires.number_set;
  left = filling c.requires.ready c.requires.node c.if-p-gt0.false c.if-self-p.false c.in-None.ensures.0 c.in-None.ensures.1 c.pass_node-in-None.ensures;
}
