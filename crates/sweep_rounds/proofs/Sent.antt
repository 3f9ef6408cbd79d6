-- A sweeper owns its memory, so it may go to another thread.
use denote.Param.Send.{IsSend, sendable}
use Rattle.std.proofs.Crossing.{crosses}
use Rattle.http_server.specs.contracts.log.Log as Log
use Rattle.gc_words.specs.contracts.address.Address as Address
use Rattle.sweep_places.specs.contracts.places.Places as Places
use Rattle.sweep_share.specs.contracts.share.Share as Share
use Rattle.sweep_share.specs.contracts.registers.Registers as Registers
use Rattle.gc_mail.specs.contracts.boxes.Inbox as Inbox
use Rattle.gc_mail.specs.contracts.boxes.Outbox as Outbox
use Rattle.sweeper.specs.contracts.sweeper.Sweeper as Sweeper

pub log_send : IsSend (Log.the_row Address.the_row Address.the_row)
log_send = search (sendable, crosses) depth 40

pub places_send : IsSend Places.the_row
places_send = search (sendable, crosses, log_send) depth 60 fits 20000

pub share_send : IsSend Share.the_row
share_send = search (sendable, crosses) depth 60 fits 20000

pub registers_send : IsSend Registers.the_row
registers_send = search (sendable, crosses) depth 60 fits 20000

pub inbox_send : IsSend Inbox.the_row
inbox_send = search (sendable, crosses) depth 60 fits 20000

pub outbox_send : IsSend Outbox.the_row
outbox_send = search (sendable, crosses) depth 60 fits 20000

pub sweeper_send : IsSend Sweeper.the_row
sweeper_send = search (sendable, crosses, places_send, share_send, registers_send, inbox_send, outbox_send) depth 40
