-- Chains of nodes: how a plan stands in a job's records.
--
-- A node's record names its parent, the node it was met from, and its move, by which it was met. Node 0 was met by none: its
-- record is never read.
use Rattle.std.specs.Prelude.{◌≡◌, ℕ, ◌<◌, ◌≤◌, List, [], ◌∷◌, ◌++◌, length, drop, Some, Ok, Err, Result}
use Rattle.rows.specs.declared.refusals.Refusal.{Refusal}
use Rattle.rows.specs.declared.refusals.Refusal.TheVariants.{Torn, ShortBuffer}
use Rattle.rows.specs.Tasks.{nth}
use Rattle.steps.specs.declared.tables.Record.{Record}

module _ {K : Type 0} (records : List (Record K)) (moves : ℕ) where
  -- the node, not node 0, has a record that can be read: the parent is below the node, and the move is one of the task's
  pub record Link (n : ℕ) (x : Record K) : Type 0 where
    pub later : 0 < n
    pub stored : nth records n ≡ Some x
    pub falls : x.parent < n
    pub known : x.step < moves

  -- the moves from node n along the parents to node 0, whose own is left out
  pub data Chain : ℕ → List ℕ → Type 0 where
    done : Chain 0 []
    link : {n : ℕ} {x : Record K} {ns : List ℕ} → Link n x → Chain x.parent ns → Chain n (x.step ∷ ns)

  -- on the way from node n along the parents is a node, not node 0, whose record cannot be read: it is not stored, its parent is
  -- not below it, or its move is not one of the task's
  pub data Broken : ℕ → Type 0 where
    here : {n : ℕ} → 0 < n → ((x : Record K) → Link n x → ⊥) → Broken n
    beyond : {n : ℕ} {x : Record K} → Link n x → Broken x.parent → Broken n

  -- The chain of node n is read into a buffer: the count of the moves is answered, which are then in the first cells in the order
  -- of doing, the node's own first; later cells keep theirs.
  pub record Read (n : ℕ) (out : List ℕ) (count : ℕ) (after : List ℕ) : Type 0 where
    pub plan : List ℕ
    pub chain : Chain n plan
    pub counted : count ≡ length plan
    pub fits : length plan ≤ length out
    pub written : after ≡ plan ++ drop (length plan) out

  -- reading it is refused: Torn if the chain is broken, else Short buffer if it is longer than the buffer
  pub data Refused (n : ℕ) (out : List ℕ) : Refusal → Type 0 where
    torn : Broken n → Refused n out Torn
    short : {ns : List ℕ} → Chain n ns → length out < length ns → Refused n out ShortBuffer

  -- what reading the chain of node n answers, and what the buffer then holds: a refusal leaves it as it was
  abbrev pub Reading : ℕ → List ℕ → Result ℕ Refusal → List ℕ → Type 0
  Reading n out (Ok count) after = Read n out count after
  Reading n out (Err e) after = Refused n out e × (after ≡ out)

  -- a broken chain does not lead to node 0
  abbrev pub NeverBoth : Type 0
  NeverBoth = (n : ℕ) (ns : List ℕ) → Broken n → Chain n ns → ⊥

  -- a node has one chain at most
  abbrev pub OneChain : Type 0
  OneChain = (n : ℕ) (ns ms : List ℕ) → Chain n ns → Chain n ms → ns ≡ ms

  -- the numbers fall along a chain, so that it has no more moves than its node's number
  abbrev pub FewMoves : Type 0
  FewMoves = (n : ℕ) (ns : List ℕ) → Chain n ns → length ns ≤ n

  -- any two readings of a node into equal buffers answer the same and leave the same
  abbrev pub OneReading : Type 0
  OneReading = (n : ℕ) (out : List ℕ) (r s : Result ℕ Refusal) (after later : List ℕ) → Reading n out r after → Reading n out s later → (r ≡ s) × (after ≡ later)
