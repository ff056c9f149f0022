-- One step, whichever it is, after document 01, "Steps", and document 02, Points 1, 7 and 12. A return asks for rest, which is defined by the
-- other steps.
use Rattle.bank.specs.Banks.{State}
use Rattle.bank.specs.Steps.{Result, order, send, take, ack, all, note, halt}
use Rattle.bank.specs.Returns.{back}
use Rattle.bank.specs.Pages.{write}
use Rattle.bank.specs.declared.bank.Step.{Step}
use Rattle.bank.specs.declared.bank.Step.TheVariants.{Order, Send, Take, Ack, All, Note, Halt, Back, Write}

unfoldable pub perform : State → Step → Result State
perform s (Order doors) = order s doors
perform s (Send i) = send s i
perform s (Take place) = take s place
perform s (Ack i) = ack s i
perform s (All i) = all s i
perform s (Note i j) = note s i j
perform s (Halt m) = halt s m
perform s (Back j) = back s j
perform s (Write i offset value) = write s i offset value
