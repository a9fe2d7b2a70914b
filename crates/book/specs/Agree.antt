-- What a program that keeps nodes keeps of them, and that each of its calls is the plain book's.
use Rattle.std.specs.Prelude.{◌≡◌, ◌≤◌, List, [], length}
use Rattle.grammar.specs.Lists.{Distinct}
use Rattle.book.specs.Plain.{Call, Limits, call, run}
use Rattle.book.specs.Nodes.{Node, Chain, texts_of, tails_of}
use Rattle.book.specs.Nodes

-- Parts stand before their wholes, and no node stands twice.
pub record Good (ns : List Node) : Type 0 where
  pub chain : Chain 0 ns
  pub once : Distinct ns

-- The nodes and the tails are within the limits.
pub record Room (limits : Limits) (ns : List Node) : Type 0 where
  pub types : length ns ≤ limits.types
  pub fields : length (tails_of ns) ≤ limits.fields

-- A call on nodes, and the same call on their texts.
pub record Agrees (limits : Limits) (ns : List Node) (c : Call) : Type 0 where
  pub good : Good (Nodes.call limits ns c).1
  pub answer : (Nodes.call limits ns c).0 ≡ (call limits (texts_of ns) c).0
  pub texts : texts_of (Nodes.call limits ns c).1 ≡ (call limits (texts_of ns) c).1

abbrev pub EachCallAgrees : Type 0
EachCallAgrees = (limits : Limits) (ns : List Node) → Good ns → (c : Call) → Agrees limits ns c

-- All calls in a row, from the empty book.
pub record RunsAgree (limits : Limits) (cs : List Call) : Type 0 where
  pub answers : (Nodes.run limits [] cs).0 ≡ (run limits [] cs).0
  pub texts : texts_of (Nodes.run limits [] cs).1 ≡ (run limits [] cs).1

abbrev pub EachRunAgrees : Type 0
EachRunAgrees = (limits : Limits) (cs : List Call) → RunsAgree limits cs
