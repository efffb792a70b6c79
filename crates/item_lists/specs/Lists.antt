-- Lists of items as words: accepted ones, the limit, the keys that they hold, and lists that are the same by bytes. Definitions only.
-- It serves 01 demand.3, tight.7, and 02 §2.5. Assumes nothing.
use Rattle.std.specs.Prelude.{ℕ, ◌≤◌, ◌≡◌, Bool, List, length}
use Rattle.query_item.specs.declared.ItemWords.{ItemWords}
use Rattle.query_item.specs.Items.{SameShown, holds_any}
use Rattle.item_check.specs.Checks.{accepted, most_items, items_of, check_verdict}

-- a list is accepted: the check of a list has nothing to refuse. (The side is only told in a refusal)
abbrev pub Accepted : List ℕ → List ℕ → Type 0
Accepted pool ws = check_verdict pool ws 0 ≡ accepted

-- a result fits the limit of a list
abbrev pub Fits : List ItemWords → Type 0
Fits its = length its ≤ most_items

-- a list of words holds a key when one of its items does
abbrev pub list_holds : List ℕ → List ℕ → List ℕ → Bool
list_holds pool ws k = holds_any pool (items_of ws) k

-- the same list, item by item
abbrev pub SameItems : List ℕ → List ℕ → List ℕ → Type 0
SameItems pool A B = SameShown pool pool (items_of A) (items_of B)
