mod Asking
mod Answered
mod Later
mod Counting
mod Standing
