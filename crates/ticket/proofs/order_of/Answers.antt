-- `ticket::order_of` meets its contract, whichever of the eight events it is.
use Rattle.std.proofs.Common.{inl, inr}
use Rattle.ticket.proofs.order_of.Goals as goal

pub returns-in-Accepted : goal.returns-in-Accepted
returns-in-Accepted c =
    elim c.in-Accepted.is [
      | inl w ↦ rw w.1
      | inr w ↦ elim w [
        | inl w ↦ rw w.3
        | inr w ↦ elim w [
          | inl w ↦ rw w.1
          | inr w ↦ elim w [
            | inl w ↦ rw w.1
            | inr w ↦ elim w [
              | inl w ↦ rw w.1
              | inr w ↦ elim w [
                | inl w ↦ rw w.3
                | inr w ↦ elim w [
                  | inl w ↦ rw w.1
                  | inr w ↦ rw w.1
                ]
              ]
            ]
          ]
        ]
      ]
    ]
