-- The meaning of the mailbox pass (document 01, 'The passes'): a function of device data alone, whatever it was read from.
pub mod Mailbox
