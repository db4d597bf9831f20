-- A draft of the code as the definitions read it. Assumes nothing.
use Rattle.claims.specs.Draft.{Given}
use Rattle.claims.specs.declared.draft.Draft.{Draft}

abbrev pub given_by : Draft → Given
given_by draft = record { next = draft.next; sum = draft.sum; count = draft.count }
