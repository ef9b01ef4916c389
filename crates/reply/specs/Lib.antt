-- Said: the reply to what a command's code gave back.
pub mod Said
